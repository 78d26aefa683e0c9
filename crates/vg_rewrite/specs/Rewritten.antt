-- Units that are planned beside a kernel's own, numbered, and what they keep of the kernel.
use Rattle.std.specs.Prelude.{◌≡◌, ◌↔◌, ℕ, List, [], ◌∷◌, Bool, true, false, not, length, map, filter, nat_le, Option, Some, None}
use Rattle.std.specs.List.{AllByRecursion}
use Rattle.vg_bits.specs.BitList.{IsBytes}
use Rattle.vg_kernel.specs.Layout.{accesses as kernel_accesses, Respects as RespectsKernel}
use Rattle.vg_kernel.specs.Meaning.{meaning}
use Rattle.vg_kernel.specs.Tree.{Tree}
use Rattle.vg_rewrite.specs.Narrowed.{narrowed_units}
use Rattle.vg_rewrite.specs.Repeated.{repeated_units}
use Rattle.vg_rewrite.specs.Running.{memory_behind}
use Rattle.vg_shapes.specs.declared.ssa.Ssa.{Ssa}
use Rattle.vg_shapes.specs.declared.ssa_unit.SsaUnit.{SsaUnit}
use Rattle.vg_shapes.specs.Layout.{accesses, Respects}
use Rattle.vg_shapes.specs.Sound.{AreArguments, IsSound, is_store}
use Rattle.vg_shapes.specs.Units.{integers}
use Rattle.vg_ssa.specs.Laws.{access_of}
use Rattle.vg_ssa.specs.OfUnits.{AreNumbered, HaveCuts, without_terms}
use Rattle.vg_ssa.specs.StandsFor.{StandsFor}

-- at most 8,192 loads and operations
abbrev pub are_few : List SsaUnit → Bool
are_few us = nat_le (length (filter (λ u. not (is_store u)) us)) 8192

-- other units over the parameters of numbered values
abbrev pub over : Ssa → List SsaUnit → Ssa
over ssa us = without_terms ssa.name ssa.params us

-- these units over the parameters of numbered values, each value with its term and its cut term; none
-- where there are too many
abbrev pub IsRenumbered : Ssa → List SsaUnit → Option Ssa → Type 0
IsRenumbered ssa us None = are_few us ≡ false
IsRenumbered ssa us (Some new) =
    (are_few us ≡ true) × AreNumbered ssa.name ssa.params us new × HaveCuts ssa.params us new

abbrev pub IsSoundIfSome : Option Ssa → Type 0
IsSoundIfSome None = Unit {0}
IsSoundIfSome (Some ssa) = IsSound ssa

-- the lists of units that are planned for numbered values: their own, those repeated, those narrowed,
-- and the narrowed ones repeated, each where it has at most 8,192 loads and operations
abbrev pub rewritten_units : Ssa → List (List SsaUnit)
rewritten_units ssa =
    filter are_few
    (ssa.units
    ∷ repeated_units ssa
    ∷ narrowed_units ssa
    ∷ repeated_units (over ssa (narrowed_units ssa))
    ∷ [])

-- In each layout that respects the kernel's noalias, for every memory of bytes and all integer
-- arguments, the units leave the memory that the kernel leaves, and trap where it traps. The layouts
-- that respect noalias are the same.
pub record StandsForApart (k : Tree) (ssa : Ssa) : Type 0 where
  pub runs :
      (memory places args : List ℕ) → IsBytes memory → AreArguments (integers ssa) args →
      RespectsKernel k places →
      memory_behind places ssa.units memory args ≡ meaning k memory places args
  pub layouts : (places : List ℕ) → RespectsKernel k places ↔ Respects ssa places

-- the second stands for each kernel for which the first does, in layouts that respect noalias
abbrev pub KeepsKernels : Ssa → Option Ssa → Type 0
KeepsKernels ssa None = Unit {0}
KeepsKernels ssa (Some new) = (k : Tree) → StandsForApart k ssa → StandsForApart k new

-- In each layout, for every memory of bytes and all integer arguments, the units leave the memory that
-- the kernel leaves, and trap where it traps. They make its accesses in the same order, and the layouts
-- that respect noalias are the same.
pub record StandsForFitting (k : Tree) (ssa : Ssa) : Type 0 where
  pub runs :
      (memory places args : List ℕ) → IsBytes memory → AreArguments (integers ssa) args →
      memory_behind places ssa.units memory args ≡ meaning k memory places args
  pub accesses : accesses ssa ≡ map access_of (kernel_accesses k)
  pub layouts : (places : List ℕ) → RespectsKernel k places ↔ Respects ssa places

-- the second does so for each kernel for which the first stands
abbrev pub KeepsFitting : Ssa → Option Ssa → Type 0
KeepsFitting ssa None = Unit {0}
KeepsFitting ssa (Some new) = (k : Tree) → StandsFor k ssa → StandsForFitting k new

-- what stands for a kernel does so in layouts that respect noalias
abbrev pub StandingIsApart : Type 0
StandingIsApart = (k : Tree) (ssa : Ssa) → StandsFor k ssa → StandsForApart k ssa

-- In each layout that respects noalias each list of units that is planned for sound values leaves the
-- memory that their own units leave, and traps where they trap.
abbrev pub RewrittenUnitsRunAlike : Type 0
RewrittenUnitsRunAlike =
    (ssa : Ssa) (places memory args : List ℕ) →
    IsSound ssa → IsBytes memory → AreArguments (integers ssa) args → Respects ssa places →
    AllByRecursion
    (λ us. memory_behind places us memory args ≡ memory_behind places ssa.units memory args)
    (rewritten_units ssa)
