-- Numbered values in the place of a kernel.
use Rattle.std.specs.Prelude.{◌≡◌, ◌↔◌, ℕ, List, length, map, Some}
use Rattle.vg_base.specs.Trap.{◌>>=◌}
use Rattle.vg_kernel.specs.Layout.{accesses as kernel_accesses, Respects as RespectsKernel}
use Rattle.vg_kernel.specs.Meaning.{meaning}
use Rattle.vg_kernel.specs.Tree.{Tree}
use Rattle.vg_shapes.specs.declared.ssa.Ssa.{Ssa}
use Rattle.vg_shapes.specs.Layout.{accesses, Respects}
use Rattle.vg_shapes.specs.RunUnits.{run_units, start_of}
use Rattle.vg_shapes.specs.Units.{arguments}
use Rattle.vg_ssa.specs.Laws.{access_of}

-- The units leave the memory that the kernel leaves, and trap where it traps; they make its accesses
-- in the same order, and the layouts that respect noalias are the same.
pub record StandsFor (k : Tree) (ssa : Ssa) : Type 0 where
  pub runs :
      (memory places args : List ℕ) → length args ≡ arguments ssa →
      (run_units places ssa.units (start_of memory args) >>= λ r. Some r.memory)
      ≡ meaning k memory places args
  pub accesses : accesses ssa ≡ map access_of (kernel_accesses k)
  pub layouts : (places : List ℕ) → RespectsKernel k places ↔ Respects ssa places
