-- The plan of a kernel, and what is told of it.
use Rattle.std.specs.Prelude.{◌≡◌, ◌≤◌, ℕ, Bool, true, false, List, [], ◌++◌, codes, length, map}
use Rattle.vg_catalog.specs.Entries.{Entry}
use Rattle.vg_kernel.specs.Cost.{scalar_cost}
use Rattle.vg_kernel.specs.Tree.{Tree}
use Rattle.vg_shapes.specs.declared.match_table.Match.{Match}
use Rattle.vg_shapes.specs.declared.pack.Pack.{Pack}
use Rattle.vg_shapes.specs.declared.ssa.Ssa.{Ssa}
use Rattle.vg_shapes.specs.Depends.{dependences}
use Rattle.vg_shapes.specs.Description.{Description}
use Rattle.vg_shapes.specs.Sound.{IsSound}
use Rattle.vg_plan_text.specs.declared.costs.Costs.{Costs}
use Rattle.vg_plan_text.specs.PlanText.{newline, plan_text}
use Rattle.vg_descriptions.specs.Descriptions.{descriptions}
use Rattle.vg_compile.specs.declared.more_plans.FedPlan.{FedPlan}
use Rattle.vg_compile.specs.declared.more_plans.PlannedValues.{PlannedValues}
use Rattle.vg_compile.specs.declared.rewriting.Rewriting.{Rewriting}
use Rattle.vg_compile.specs.declared.rewriting.Rewriting.TheVariants.{Own, Repeated, Narrowed, NarrowedRepeated}
use Rattle.vg_compile.specs.Chosen.{IsChosenPlan, KernelPlan, IsChosenFor, AreWhole, IsTableOf, cost_of, price_of, plain_of_units}
use Rattle.vg_compile.specs.Means.{param_of}
use Rattle.vg_compile.specs.Rewritten.{StandIn}

-- The chosen plan of numbered values, where the search keeps so many plans of each size, with what it and
-- the plain plan cost: at most that of the plain plan, and at most a line for each unit.
pub record IsPlanned
    (ds : List Description) (matches : List Match) (ssa : Ssa) (width : ℕ) (packs : List Pack)
    (cost plain : ℕ)
    : Type 0 where
  pub chosen : IsChosenPlan ds matches ssa width packs
  pub costs : cost ≡ cost_of ds matches ssa packs
  pub plain_costs : plain ≡ cost_of ds matches ssa (plain_of_units ds matches ssa)
  pub below_plain : cost ≤ plain
  pub below_scalar : cost ≤ length ssa.units

-- what the plain plan of a kernel costs: that over the values which lanes fit whole alone, whichever plan is
-- chosen
pub record PlainCosts (ds : List Description) (k : Tree) (plain : ℕ) : Type 0 where
  pub ssa : Ssa
  pub matches : List Match
  pub values : AreWhole k ssa
  pub table : IsTableOf ds ssa matches
  pub is : plain ≡ cost_of ds matches ssa (plain_of_units ds matches ssa)

-- The plan that is chosen of a kernel, with more plans or without, and over which of its units, with what it
-- and the plain plan cost: at most that of the plain plan, and at most the scalar cost.
pub record IsPlannedFor
    (more : Bool) (ds : List Description) (k : Tree) (width : ℕ) (rewriting : Rewriting) (plan : KernelPlan)
    (cost plain : ℕ)
    : Type 0 where
  pub chosen : IsChosenFor more ds k width rewriting plan
  pub costs : cost ≡ price_of ds plan
  pub plain_costs : PlainCosts ds k plain
  pub below_plain : cost ≤ plain
  pub below_scalar : cost ≤ scalar_cost k

-- the plan of a kernel that the code's value stands for
abbrev pub plan_seen : PlannedValues → KernelPlan
plan_seen v =
    record { ssa = v.ssa; matches = v.planned.chosen.table; packs = v.planned.chosen.plan }

-- values with another plan of theirs
abbrev pub with_plan : PlannedValues → FedPlan → PlannedValues
with_plan v f = record {
  ssa = v.ssa;
  planned = record {
    chosen = record { table = v.planned.chosen.table; deps = v.planned.chosen.deps; plan = f.plan };
    cost = f.cost;
    plain = v.planned.plain;
  };
}

-- The plan that is chosen of a kernel with more plans, with what it and the plain plan cost, over sound values
-- in the place of the kernel.
pub record IsPlannedMore
    (ds : List Description) (k : Tree) (width : ℕ) (rewriting : Rewriting) (v : PlannedValues) (plain : ℕ)
    : Type 0 where
  pub planned : IsPlannedFor true ds k width rewriting (plan_seen v) v.planned.cost plain
  pub sound : IsSound v.ssa
  pub stands : StandIn k v.ssa
  pub deps : v.planned.chosen.deps ≡ dependences v.ssa

-- the chosen plan of a kernel, which may call the instances of the entries in a set of extensions
abbrev pub IsPlanOf : List Entry → ℕ → Tree → ℕ → List Pack → ℕ → ℕ → Type 0
IsPlanOf entries set k width packs cost plain =
    (ssa : Ssa) × (matches : List Match)
    × IsPlannedFor false (descriptions set entries) k width Own
    (record { ssa = ssa; matches = matches; packs = packs }) cost plain

-- the costs that are told of a plan of a kernel
abbrev pub costs_told : Tree → ℕ → ℕ → Costs
costs_told k cost plain = record { plan = cost; plain = plain; scalar = scalar_cost k }

-- `rewritten narrowed`: over which units the plan is; nothing where over the kernel's own
abbrev pub rewriting_line : Rewriting → List ℕ
rewriting_line Own = []
rewriting_line Repeated = codes "rewritten repeated" ++ newline
rewriting_line Narrowed = codes "rewritten narrowed" ++ newline
rewriting_line NarrowedRepeated = codes "rewritten narrowed repeated" ++ newline

-- the lines on the plan that is chosen of a kernel, with more plans or without: over which units it is where
-- they are not the kernel's own, its packs, and what it, the plain plan and the kernel cost
pub record IsExplained
    (entries : List Entry) (set : ℕ) (k : Tree) (width : ℕ) (more : Bool) (text : List ℕ)
    : Type 0 where
  pub rewriting : Rewriting
  pub plan : KernelPlan
  pub cost : ℕ
  pub plain : ℕ
  pub planned : IsPlannedFor more (descriptions set entries) k width rewriting plan cost plain
  pub lines :
      text
      ≡ rewriting_line rewriting
      ++ plan_text (map param_of k.params) (descriptions set entries) plan.ssa plan.packs
      (costs_told k cost plain)
