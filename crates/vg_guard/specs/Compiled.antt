-- What is compiled of a kernel with guards.
use Rattle.std.specs.Prelude.{◌≡◌, ℕ, Bool, List}
use Rattle.vg_catalog.specs.Called.{called_by, headers_of}
use Rattle.vg_catalog.specs.Entries.{Entry}
use Rattle.vg_compile.specs.Compiled.{IsCompiled}
use Rattle.vg_compile.specs.Described.{AreDescribed}
use Rattle.vg_compile.specs.Means.{IsInput}
use Rattle.vg_kernel.specs.Tree.{Tree}
use Rattle.vg_kernel.specs.Meaning.{meaning}
use Rattle.vg_program.specs.Meaning.{Instructions}
use Rattle.vg_shapes.specs.Description.{Description}
use Rattle.vg_guard.specs.declared.guarded.Guarded.{Guarded}
use Rattle.vg_guard.specs.Checks.{checks_of}
use Rattle.vg_guard.specs.Guarded.{guarded_meaning, IsGuarded}
use Rattle.vg_guard.specs.Noalias.{all_noalias}

-- A guarded program means a kernel: on everything that the kernel may be run on, in each layout
-- that keeps what the kernel itself says of `noalias`, it leaves the same memory, or traps where
-- the kernel traps.
abbrev pub GuardedMeans : Instructions → Guarded → Tree → Type 0
GuardedMeans called g k =
    (memory places args : List ℕ) → IsInput k memory places args
    → guarded_meaning called g memory places args ≡ meaning k memory places args

-- The checks are exactly those of the kernel, and the whole means the kernel and has a text that
-- keeps the rules. The fast side is compiled of the kernel with every pointer `noalias`, the slow
-- one of the kernel: each is valid, calls instances of the entries in a set of extensions alone,
-- states the scalar cost, costs at most that, and is the program of the plan that is chosen of its
-- kernel, with more plans or without.
pub record IsCompiledGuarded
    (entries : List Entry) (set : ℕ) (k : Tree) (width : ℕ) (more : Bool) (g : Guarded) : Type 0 where
  pub checks : g.checks ≡ checks_of k
  pub means : GuardedMeans (called_by entries) g k
  pub rules : IsGuarded (headers_of entries) g
  pub fast : IsCompiled entries set (all_noalias k) width more g.fast
  pub slow : IsCompiled entries set k width more g.slow

-- it is compiled of the kernel, of whatever entries and set of extensions these are the descriptions
abbrev pub IsGuardedBy : List Description → Tree → ℕ → Bool → Guarded → Type 0
IsGuardedBy ds k width more g =
    (entries : List Entry) (set : ℕ) → AreDescribed entries set ds
    → IsCompiledGuarded entries set k width more g
