-- Small kernels and their groups, as they are read off.
use Rattle.std.specs.Prelude.{◌≡◌, ℕ, true, List, [], ◌∷◌, codes, pos}
use Rattle.vg_base.specs.declared.address.Address.{Address}
use Rattle.vg_base.specs.declared.width.Width.TheVariants.{W8, W16}
use Rattle.vg_shapes.specs.declared.operand.Operand.{Operand}
use Rattle.vg_shapes.specs.declared.pack.Pack.TheVariants.{Loads, Stores}
use Rattle.vg_shapes.specs.declared.ssa.Ssa.{Ssa}
use Rattle.vg_shapes.specs.declared.ssa.SsaParamKind.TheVariants.{Pointer}
use Rattle.vg_shapes.specs.declared.ssa_unit.SsaUnit.{SsaUnit}
use Rattle.vg_shapes.specs.declared.ssa_unit.SsaUnit.TheVariants.{Load, Store}
use Rattle.vg_shapes.specs.declared.wanted.Wanted.TheVariants.{Constant, Nothing, Value}
use Rattle.vg_kernel_plans.specs.Groups.{aligned_groups}
use Rattle.vg_kernel_plans.specs.LoadGroups.{feeders, load_groups}
use Rattle.vg_kernel_plans.specs.Wants.{slot}

-- a kernel over two pointers, of which only the units matter
abbrev pub of_units : List SsaUnit → Ssa
of_units units = record {
  name = codes "k";
  params = record { name = codes "d"; kind = Pointer true } ∷ record { name = codes "p"; kind = Pointer true } ∷ [];
  units = units;
  terms = [];
  cuts = [];
}

abbrev pub at : ℕ → ℕ → Address
at pointer offset = record { pointer = pointer; offset = pos offset }

abbrev pub byte : ℕ → SsaUnit
byte offset = Load (at 1 offset) W8

-- ---- loads

-- five bytes from the fifth down to the first, that one twice, one that stands apart, and a word
abbrev pub loading : Ssa
loading =
    of_units
    (byte 4 ∷ byte 3 ∷ byte 2 ∷ byte 1 ∷ byte 0 ∷ byte 0 ∷ byte 6 ∷ Load (at 1 0) W16 ∷ [])

-- what wants these values, a byte each
abbrev pub wanting : ℕ → ℕ → ℕ → Operand
wanting register u v = record {
  register = register;
  slots = slot 0 8 (Value u) ∷ slot 8 8 Nothing ∷ slot 16 8 (Value v) ∷ slot 24 8 (Constant 8 7) ∷ [];
}

-- four bytes are one part; the fifth, the second load of the first, the one apart and the word are in none
pub record LoadRows : Type 0 where
  pub narrow : load_groups loading 128 ≡ Loads (4 ∷ 3 ∷ 2 ∷ 1 ∷ []) ∷ []
  pub half : load_groups loading 256 ≡ []
  pub wide : load_groups loading 512 ≡ []
  pub other : load_groups loading 64 ≡ []
  -- one of its loads is wanted; none is; the register is another
  pub fed : feeders loading (wanting 128 0 3) ≡ Loads (4 ∷ 3 ∷ 2 ∷ 1 ∷ []) ∷ []
  pub unfed : feeders loading (wanting 128 0 5) ≡ []
  pub apart : feeders loading (wanting 256 4 3) ≡ []

-- sixteen bits each: two words, and two more that a gap parts from them
abbrev pub words : Ssa
words =
    of_units
    (Load (at 1 12) W16 ∷ Load (at 1 10) W16 ∷ Load (at 1 2) W16 ∷ Load (at 1 4) W16 ∷ Load (at 0 2) W16 ∷ Load (at 0 4) W16 ∷ [])

-- by pointer and offset, each rising
abbrev pub WordRow : Type 0
WordRow =
    load_groups words 128 ≡ Loads (4 ∷ 5 ∷ []) ∷ Loads (2 ∷ 3 ∷ []) ∷ Loads (1 ∷ 0 ∷ []) ∷ []

-- ---- stores

abbrev pub put : ℕ → SsaUnit
put offset = Store (at 0 offset) W8 (Constant 8 0)

-- nine bytes from the fourth on
abbrev pub storing : Ssa
storing =
    of_units
    (put 4 ∷ put 5 ∷ put 6 ∷ put 7 ∷ put 8 ∷ put 9 ∷ put 10 ∷ put 11 ∷ put 12 ∷ [])

-- alignment is by the run, not by the offset
abbrev pub StoreRow : Type 0
StoreRow =
    aligned_groups storing
    ≡ Stores (0 ∷ 1 ∷ 2 ∷ 3 ∷ 4 ∷ 5 ∷ 6 ∷ 7 ∷ [])
    ∷ Stores (0 ∷ 1 ∷ 2 ∷ 3 ∷ [])
    ∷ Stores (4 ∷ 5 ∷ 6 ∷ 7 ∷ [])
    ∷ []

pub record GroupRows : Type 0 where
  pub loads : LoadRows
  pub words : WordRow
  pub stores : StoreRow
