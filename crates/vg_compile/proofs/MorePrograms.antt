-- What is compiled of a kernel with more plans.
use Rattle.std.proofs.Common.{◌≡◌, ◌∙◌, ◌≤◌, ℕ, true, List, length, sym, ap, subst, inl, inr, arith}
use Rattle.std.specs.List.{AllByRecursion}
use Rattle.vg_catalog.specs.Entries.{Entry}
use Rattle.vg_kernel.specs.Cost.{scalar_cost}
use Rattle.vg_kernel.specs.Tree.{Tree}
use Rattle.vg_kernel.specs.WellFormed.{IsWellFormed}
use Rattle.vg_program.specs.declared.program.Program.{Program}
use Rattle.vg_program.specs.Cost as programs
use Rattle.vg_shapes.specs.Description.{Description}
use Rattle.vg_shapes.specs.Depends.{dependences}
use Rattle.vg_kernel_plans.specs.Fed.{IsFedPlanFor}
use Rattle.vg_emission.specs.Truth.{IsCallable}
use Rattle.vg_plan_laws.specs.Laws.{AreKnown}
use Rattle.vg_descriptions.specs.Descriptions.{AreOf, descriptions}
use Rattle.vg_descriptions.specs.Proper.{AreProper}
use Rattle.vg_compile.specs.declared.more_plans.PlannedValues.{PlannedValues}
use Rattle.vg_compile.specs.declared.rewriting.Rewriting.{Rewriting}
use Rattle.vg_compile.specs.Chosen.{IsTableOf, KernelPlan, price_of}
use Rattle.vg_compile.specs.Compiled.{IsCompiled}
use Rattle.vg_compile.specs.Emitted.{IsEmitted, with_scalar}
use Rattle.vg_compile.specs.Planned.{IsPlannedMore, plan_seen}
use Rattle.vg_compile.proofs.Carried.{emitted-cost, emitted-is, fed-may-feed, may-feed}
use Rattle.vg_compile.proofs.More.{IsOneOf, more-chosen}
use Rattle.vg_compile.proofs.Ordered.{known}
use Rattle.vg_compile.proofs.Whole.{all-callable, compiled-by}

the-plan : (ds : List Description) (k : Tree) (width : ℕ) (rewriting : Rewriting) (v : PlannedValues) (plain : ℕ)
    → IsPlannedMore ds k width rewriting v plain → IsOneOf ds width (plan_seen v)
the-plan ds k width rewriting v plain more = more-chosen ds k width rewriting (plan_seen v) more.planned.chosen

-- ---- what chosen plans have, fed or not

table-of : (ds : List Description) (width : ℕ) (plan : KernelPlan) → IsOneOf ds width plan
    → IsTableOf ds plan.ssa plan.matches
table-of ds width plan (inl chosen) = chosen.table
table-of ds width plan (inr fed) = fed.table

below-units : (ds : List Description) (width : ℕ) (plan : KernelPlan) → IsOneOf ds width plan
    → price_of ds plan ≤ length plan.ssa.units
below-units ds width plan (inl chosen) = chosen.below_scalar
below-units ds width plan (inr fed) = fed.below_scalar

may-be : (ds : List Description) (width : ℕ) (plan : KernelPlan) → AreKnown ds plan.matches plan.ssa
    → IsOneOf ds width plan
    → IsFedPlanFor ds plan.matches plan.ssa (dependences plan.ssa) plan.packs
may-be ds width plan known (inl chosen) = may-feed ds plan.matches plan.ssa width plan.packs known chosen
may-be ds width plan known (inr fed) = fed-may-feed ds plan.matches plan.ssa width plan.packs known fed

pub more-known : (ds : List Description) (k : Tree) (width : ℕ) (rewriting : Rewriting) (v : PlannedValues) (plain : ℕ)
    → AllByRecursion IsCallable ds → IsPlannedMore ds k width rewriting v plain
    → AreKnown ds v.planned.chosen.table v.ssa
more-known ds k width rewriting v plain callable more =
    known ds v.planned.chosen.table v.ssa more.sound callable (table-of ds width (plan_seen v) (the-plan ds k width rewriting v plain more)).matched

grown : (ds : List Description) (k : Tree) (width : ℕ) (rewriting : Rewriting) (v : PlannedValues) (plain : ℕ)
    → AllByRecursion IsCallable ds → IsPlannedMore ds k width rewriting v plain
    → IsFedPlanFor ds v.planned.chosen.table v.ssa (dependences v.ssa) v.planned.chosen.plan
grown ds k width rewriting v plain callable more =
    may-be ds width (plan_seen v) (more-known ds k width rewriting v plain callable more) (the-plan ds k width rewriting v plain more)

pub more-grows : (ds : List Description) (k : Tree) (width : ℕ) (rewriting : Rewriting) (v : PlannedValues) (plain : ℕ)
    → AllByRecursion IsCallable ds → IsPlannedMore ds k width rewriting v plain
    → IsFedPlanFor ds v.planned.chosen.table v.ssa v.planned.chosen.deps v.planned.chosen.plan
more-grows ds k width rewriting v plain callable more =
    subst (λ d. IsFedPlanFor ds v.planned.chosen.table v.ssa d v.planned.chosen.plan) (sym more.deps) (grown ds k width rewriting v plain callable more)

pub more-compiled : (entries : List Entry) (set : ℕ) (k : Tree) (width : ℕ) (ds xs : List Description)
    (rewriting : Rewriting) (v : PlannedValues) (plain : ℕ) (over p : Program)
    → xs ≡ ds → IsWellFormed k → ds ≡ descriptions set entries → AreOf entries ds → AreProper entries
    → IsPlannedMore xs k width rewriting v plain
    → IsEmitted xs v.planned.chosen.table v.ssa v.planned.chosen.plan over → p ≡ with_scalar (scalar_cost k) over
    → IsCompiled entries set k width true p
more-compiled entries set k width ds xs rewriting v plain over p slice good listed are proper more emitted is =
    let callable : AllByRecursion IsCallable xs = subst (AllByRecursion IsCallable) (sym slice) (all-callable entries ds are) in
    let all_known = more-known xs k width rewriting v plain callable more in
    let plan = grown xs k width rewriting v plain callable more in
    let few = below-units xs width (plan_seen v) (the-plan xs k width rewriting v plain more) in
    let costs = emitted-cost xs v.planned.chosen.table v.ssa v.planned.chosen.plan over all_known plan emitted in
    let cost : programs.cost_of p ≡ price_of xs (plan_seen v) = ap programs.cost_of is ∙ costs in
    let cheap = more.planned.below_scalar in
    compiled-by entries set k width true v.ssa ds xs over p rewriting (plan_seen v) slice good more.stands more.sound
    listed are proper (emitted-is xs v.planned.chosen.table v.ssa v.planned.chosen.plan over all_known plan few emitted) is more.planned.chosen
    (omega (arith, cost, more.planned.costs, cheap))
    (record { program = over; emitted = emitted; is = is; cost = cost })
