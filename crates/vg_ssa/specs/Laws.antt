-- What the numbered values of a kernel promise.
use Rattle.std.specs.Prelude.{◌≡◌, ◌↔◌, ◌⊎◌, ℕ, List, [], length, map, Some}
use Rattle.vg_base.specs.Trap.{◌>>=◌}
use Rattle.vg_kernel.specs.Cost.{scalar_cost}
use Rattle.vg_kernel.specs.Layout.{Access as KernelAccess, accesses as kernel_accesses, Respects as RespectsKernel}
use Rattle.vg_kernel.specs.Meaning.{meaning}
use Rattle.vg_kernel.specs.Tree.{Tree}
use Rattle.vg_kernel.specs.WellFormed.{IsWellFormed}
use Rattle.vg_shapes.specs.declared.access.Access.{Access}
use Rattle.vg_shapes.specs.declared.ssa.Ssa.{Ssa}
use Rattle.vg_shapes.specs.Layout.{accesses, Respects}
use Rattle.vg_shapes.specs.RunUnits.{run_units, start_of}
use Rattle.vg_shapes.specs.Sound.{IsSound, TakeEarlier}
use Rattle.vg_shapes.specs.Units.{arguments}
use Rattle.vg_ssa.specs.Cuts.{HasCuts}
use Rattle.vg_ssa.specs.Numbering.{first_unit, IsNumbering, units_of}

-- the units of a kernel leave the memory that the kernel leaves, and trap where it traps
abbrev pub UnitsRunAsKernels : Type 0
UnitsRunAsKernels =
    (k : Tree) (memory places args : List ℕ) →
    IsWellFormed k → length args ≡ first_unit k →
    (run_units places (units_of k) (start_of memory args) >>= λ r. Some r.memory)
    ≡ meaning k memory places args

-- an access of a kernel as one of numbered values
abbrev pub access_of : KernelAccess → Access
access_of x = record { address = x.address; size = x.size; writes = x.writes }

-- the units of a kernel make its accesses, in the same order
abbrev pub SameAccesses : Type 0
SameAccesses =
    (k : Tree) (ssa : Ssa) → IsNumbering k ssa → accesses ssa ≡ map access_of (kernel_accesses k)

-- the layouts that respect noalias are the same
abbrev pub SameLayouts : Type 0
SameLayouts =
    (k : Tree) (ssa : Ssa) (places : List ℕ) → IsNumbering k ssa →
    RespectsKernel k places ↔ Respects ssa places

-- there is a unit for each load, operation and store
abbrev pub UnitsAreTheCost : Type 0
UnitsAreTheCost = (k : Tree) → length (units_of k) ≡ scalar_cost k

-- the units are numbered after the integer parameters
abbrev pub ArgumentsFirst : Type 0
ArgumentsFirst = (k : Tree) (ssa : Ssa) → IsNumbering k ssa → arguments ssa ≡ first_unit k

-- each unit takes values before it alone
abbrev pub UnitsTakeEarlier : Type 0
UnitsTakeEarlier = (k : Tree) → IsWellFormed k → TakeEarlier (first_unit k) (units_of k)

-- what a well-formed kernel is numbered as is sound, with cut terms or without: above all, where a
-- run of the units reaches a value, the term of the value has its number, and so have its cut term and
-- its name
abbrev pub NumberedValuesAreSound : Type 0
NumberedValuesAreSound =
    (k : Tree) (ssa : Ssa) → IsWellFormed k → IsNumbering k ssa →
    (ssa.cuts ≡ []) ⊎ HasCuts k ssa → IsSound ssa
