-- Rewritten units leave the memory that the given ones leave, and trap where they trap.
use Rattle.std.specs.Prelude.{◌≡◌, ℕ, List, length, Option, Some}
use Rattle.vg_base.specs.Trap.{◌>>=◌}
use Rattle.vg_bits.specs.BitList.{IsBytes}
use Rattle.vg_rewrite.specs.Narrowed.{narrowed_units}
use Rattle.vg_rewrite.specs.Repeated.{repeated_units}
use Rattle.vg_shapes.specs.declared.ssa.Ssa.{Ssa}
use Rattle.vg_shapes.specs.declared.ssa_unit.SsaUnit.{SsaUnit}
use Rattle.vg_shapes.specs.Layout.{Respects}
use Rattle.vg_shapes.specs.RunUnits.{run_units, start_of}
use Rattle.vg_shapes.specs.Sound.{AreArguments, IsSound}
use Rattle.vg_shapes.specs.Units.{arguments, integers}

-- the memory that units leave, with these pointers and integer parameters; None is a trap
abbrev pub memory_behind : List ℕ → List SsaUnit → List ℕ → List ℕ → Option (List ℕ)
memory_behind places us memory args =
    run_units places us (start_of memory args) >>= λ r. Some r.memory

-- The repeated units of sound values do as the values' own in each layout that respects noalias, for
-- every memory and all numbers of the integer parameters.
abbrev pub RepeatedUnitsRunAlike : Type 0
RepeatedUnitsRunAlike =
    (ssa : Ssa) (places memory args : List ℕ) →
    IsSound ssa → length args ≡ arguments ssa → Respects ssa places →
    memory_behind places (repeated_units ssa) memory args
    ≡ memory_behind places ssa.units memory args

-- The narrowed units of sound values do as the values' own in each layout, for every memory of bytes
-- and all integer arguments.
abbrev pub NarrowedUnitsRunAlike : Type 0
NarrowedUnitsRunAlike =
    (ssa : Ssa) (places memory args : List ℕ) →
    IsSound ssa → IsBytes memory → AreArguments (integers ssa) args →
    memory_behind places (narrowed_units ssa) memory args
    ≡ memory_behind places ssa.units memory args
