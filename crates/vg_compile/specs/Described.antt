-- What is compiled and told of a kernel by descriptions of instances, whichever entries they are of.
use Rattle.std.specs.Prelude.{◌≡◌, ℕ, Bool, List}
use Rattle.vg_catalog.specs.Entries.{Entry}
use Rattle.vg_kernel.specs.Tree.{Tree}
use Rattle.vg_program.specs.declared.program.Program.{Program}
use Rattle.vg_shapes.specs.declared.pack.Pack.{Pack}
use Rattle.vg_shapes.specs.Description.{Description}
use Rattle.vg_descriptions.specs.Descriptions.{AreOf, descriptions}
use Rattle.vg_descriptions.specs.Proper.{AreProper}
use Rattle.vg_compile.specs.Compiled.{IsCompiled}
use Rattle.vg_compile.specs.Planned.{IsExplained, IsPlanOf}

-- the descriptions of the instances that packs may call, of the entries of a catalogue whose extension is in
-- a set; each is true
pub record AreDescribed (entries : List Entry) (set : ℕ) (ds : List Description) : Type 0 where
  pub all : ds ≡ descriptions set entries
  pub each : AreOf entries ds
  pub proper : AreProper entries

-- it is compiled of the kernel, of whatever entries and set of extensions these are the descriptions
abbrev pub IsCompiledBy : List Description → Tree → ℕ → Bool → Program → Type 0
IsCompiledBy ds k width more p =
    (entries : List Entry) (set : ℕ) → AreDescribed entries set ds → IsCompiled entries set k width more p

-- so are the lines on the chosen plan
abbrev pub IsExplainedBy : List Description → Tree → ℕ → Bool → List ℕ → Type 0
IsExplainedBy ds k width more text =
    (entries : List Entry) (set : ℕ) → AreDescribed entries set ds → IsExplained entries set k width more text

-- and so is the chosen plan
abbrev pub IsPlanBy : List Description → Tree → ℕ → List Pack → ℕ → ℕ → Type 0
IsPlanBy ds k width packs cost plain =
    (entries : List Entry) (set : ℕ) → AreDescribed entries set ds → IsPlanOf entries set k width packs cost plain
