-- The lists of units that the code plans for a kernel, and what it finds of each.
use Rattle.std.specs.Prelude.{◌≡◌, ◌⊎◌, ℕ, List, [], Option, Some, None, true, false, nat_le, if◌then◌else◌}
use Rattle.vg_kernel.specs.Tree.{Tree}
use Rattle.vg_rewrite.specs.Rewritten.{are_few}
use Rattle.vg_shapes.specs.declared.ssa.Ssa.{Ssa}
use Rattle.vg_shapes.specs.declared.ssa_unit.SsaUnit.{SsaUnit}
use Rattle.vg_shapes.specs.Depends.{dependences}
use Rattle.vg_shapes.specs.Description.{Description}
use Rattle.vg_shapes.specs.Sound.{IsSound, terms_of}
use Rattle.vg_ssa.specs.Cuts.{HasCuts}
use Rattle.vg_ssa.specs.Numbering.{IsNumbering}
use Rattle.vg_ssa.specs.OfUnits.{AreNumbered, HaveCuts}
use Rattle.vg_compile.specs.declared.lists.Lists.{Lists}
use Rattle.vg_compile.specs.declared.more_plans.BestPlan.{BestPlan}
use Rattle.vg_compile.specs.declared.more_plans.PlannedValues.{PlannedValues}
use Rattle.vg_compile.specs.declared.rewriting.Rewriting.{Rewriting}
use Rattle.vg_compile.specs.declared.rewriting.Rewriting.TheVariants.{Repeated, Narrowed, NarrowedRepeated}
use Rattle.vg_compile.specs.Chosen.{IsChosenPlan, IsChosenFedPlan, KernelPlan, cheaper, cost_of, plain_of_units, price_of}
use Rattle.vg_compile.specs.Planned.{plan_seen}
use Rattle.vg_compile.specs.Rewritten.{StandIn, units_by}

-- ---- lists

-- values without others whose units are the same
abbrev pub IsLeft : Option Ssa → Ssa → Option Ssa → Type 0
IsLeft None earlier left = left ≡ None
IsLeft (Some new) earlier left = (left ≡ Some new) ⊎ ((left ≡ None) × (new.units ≡ earlier.units))

abbrev pub IsLeftBeside : Option Ssa → Option Ssa → Option Ssa → Type 0
IsLeftBeside values None left = left ≡ values
IsLeftBeside values (Some earlier) left = IsLeft values earlier left

-- sound values of these units, in the place of the kernel whose own values these are
pub record AreListed (k : Tree) (own : Ssa) (units : List SsaUnit) (ssa : Ssa) : Type 0 where
  pub numbered : AreNumbered own.name own.params units ssa
  pub cuts : HaveCuts own.params units ssa
  pub sound : IsSound ssa
  pub stands : StandIn k ssa

-- The values of these units. None where the units are too many, or are those of earlier values.
abbrev pub IsListed : Tree → Ssa → (Ssa → Type 0) → List SsaUnit → Option Ssa → Type 0
IsListed k own earlier units None =
    (are_few units ≡ false)
    ⊎ ((are_few units ≡ true) × (ssa : Ssa) × earlier ssa × (ssa.units ≡ units))
IsListed k own earlier units (Some ssa) = (are_few units ≡ true) × AreListed k own units ssa

-- the lists of units of a kernel, each once
pub record AreLists (k : Tree) (lists : Lists) : Type 0 where
  pub numbering : IsNumbering k lists.own
  pub cuts : HasCuts k lists.own
  pub sound : IsSound lists.own
  pub stands : StandIn k lists.own
  pub repeated :
      IsListed k lists.own (λ s. s ≡ lists.own) (units_by Repeated lists.own) lists.repeated
  pub narrowed :
      IsListed k lists.own (λ s. (s ≡ lists.own) ⊎ (lists.repeated ≡ Some s))
      (units_by Narrowed lists.own) lists.narrowed
  pub both :
      IsListed k lists.own
      (λ s. ((s ≡ lists.own) ⊎ (lists.repeated ≡ Some s)) ⊎ (lists.narrowed ≡ Some s))
      (units_by NarrowedRepeated lists.own) lists.both

-- ---- plans of a list

-- the same values without cut terms
pub record AreUncut (values ssa : Ssa) : Type 0 where
  pub named : ssa.name ≡ values.name
  pub over : ssa.params ≡ values.params
  pub made_of : ssa.units ≡ values.units
  pub terms : terms_of ssa ≡ terms_of values
  pub uncut : ssa.cuts ≡ []

-- The first of the least cost of the three plans over one list of units, with what it costs, and what the
-- plain plan costs. These are the values of the list with cut terms.
pub record IsPlannedList
    (ds : List Description) (values : Ssa) (width : ℕ) (v : PlannedValues) (plain : ℕ)
    : Type 0 where
  pub whole : KernelPlan
  pub wide : KernelPlan
  pub fed : KernelPlan
  pub uncut : AreUncut values whole.ssa
  pub wide_of : wide.ssa ≡ values
  pub fed_of : fed.ssa ≡ values
  pub whole_chosen : IsChosenPlan ds whole.matches whole.ssa width whole.packs
  pub wide_chosen : IsChosenPlan ds wide.matches wide.ssa width wide.packs
  pub fed_chosen : IsChosenFedPlan ds fed.matches fed.ssa width fed.packs
  pub is : plan_seen v ≡ cheaper ds (cheaper ds whole wide) fed
  pub cost : v.planned.cost ≡ price_of ds (plan_seen v)
  pub plain_costs : plain ≡ cost_of ds whole.matches whole.ssa (plain_of_units ds whole.matches whole.ssa)
  pub sound : IsSound v.ssa
  pub deps : v.planned.chosen.deps ≡ dependences v.ssa

-- the best plan so far, or that over another list where there is one and it costs less
abbrev pub IsBetter : List Description → ℕ → BestPlan → Rewriting → Option Ssa → BestPlan → Type 0
IsBetter ds width best rewriting None next = next ≡ best
IsBetter ds width best rewriting (Some values) next =
    (v : PlannedValues) × (plain : ℕ) × IsPlannedList ds values width v plain
    × (next
    ≡ (if nat_le best.values.planned.cost v.planned.cost then best
    else record { rewriting = rewriting; values = v }))
