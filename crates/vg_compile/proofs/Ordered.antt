-- Plans of a kernel by the list of all its dependences: their orders, and what is emitted in them.
use Rattle.std.proofs.Common.{◌≡◌, ◌∙◌, ℕ, List, ap, sym, subst}
use Rattle.std.specs.List.{AllByRecursion}
use Rattle.vg_program.specs.declared.program.Program.{Program}
use Rattle.vg_shapes.specs.declared.match_table.Match.{Match}
use Rattle.vg_shapes.specs.declared.order.Node.{Node}
use Rattle.vg_shapes.specs.declared.pack.Pack.{Pack}
use Rattle.vg_shapes.specs.declared.ssa.Ssa.{Ssa}
use Rattle.vg_shapes.specs.Depends.{dependences}
use Rattle.vg_shapes.specs.Description.{Description}
use Rattle.vg_shapes.specs.Matches.{AreMatches}
use Rattle.vg_shapes.specs.Nodes.{ArePacks, IsOrder}
use Rattle.vg_shapes.specs.Sound.{IsSound}
use Rattle.vg_kernel_plans.specs.Laws as plans
use Rattle.vg_kernel_plans.specs.Fed.{IsFedPlanFor, fed_aligned, unfed}
use Rattle.vg_kernel_plans.specs.Laws.{IsPlanFor}
use Rattle.vg_kernel_plans.proofs.FedPlans.{may-be-fed}
use Rattle.vg_kernel_plans.specs.Packing.{plain_of}
use Rattle.vg_kernel_plans.specs.Taken.{IsShort}
use Rattle.vg_packs.specs.Walk.{NameEarlierUnits}
use Rattle.vg_beam.specs.Chosen.{HaveShortPacks, HaveShortPacksBy}
use Rattle.vg_order.specs.ByList.{IsOrderBy, NameLesser, NameUnits, NamesCycle}
use Rattle.vg_order.specs.Scheduled.{IsScheduled}
use Rattle.vg_order.proofs.AllDependences.{dependences-give_orders, dependences-name_units}
use Rattle.vg_emission.specs.Truth.{IsCallable}
use Rattle.vg_gather.specs.Recipes.{planned_program}
use Rattle.vg_plan_laws.specs.Laws.{AreKnown}
use Rattle.vg_plan_laws.proofs.Planned.{packs-are-right}
use Rattle.vg_plan_orders.proofs.Cycles.{plans-have-no-cycle}
use Rattle.vg_emit_laws.proofs.Near.{packs-are-short}
use Rattle.vg_compile.specs.Emitted.{IsEmitted}
use Rattle.vg_compile.proofs.Choices.{plain_is_plan}

pub names_units : (ssa : Ssa) (deps : List (ℕ × ℕ)) → deps ≡ dependences ssa → NameUnits ssa deps
names_units ssa deps e = subst (NameUnits ssa) (sym e) (dependences-name_units ssa).0

names_lesser : (ssa : Ssa) (deps : List (ℕ × ℕ)) → deps ≡ dependences ssa → NameLesser deps
names_lesser ssa deps e = subst NameLesser (sym e) (dependences-name_units ssa).1

pub names_earlier : (ssa : Ssa) (deps : List (ℕ × ℕ)) → deps ≡ dependences ssa → NameEarlierUnits ssa deps
names_earlier ssa deps e = record { units = names_units ssa deps e; earlier = names_lesser ssa deps e }

pub no_cycle : (ds : List Description) (matches : List Match) (ssa : Ssa) (deps : List (ℕ × ℕ)) (plan : List Pack)
    (units : List ℕ)
    → deps ≡ dependences ssa → IsFedPlanFor ds matches ssa deps plan → NamesCycle deps ssa matches plan units → ⊥
no_cycle ds matches ssa deps plan units e is (cycle, closed, are, once) =
    plans-have-no-cycle ds matches ssa deps plan cycle (names_units ssa deps e) (names_lesser ssa deps e) is closed

pub is_order : (matches : List Match) (ssa : Ssa) (deps : List (ℕ × ℕ)) (plan : List Pack) (order : List Node)
    → deps ≡ dependences ssa → IsOrderBy deps ssa matches plan order → IsOrder ssa matches plan order
is_order matches ssa deps plan order e is =
    (dependences-give_orders ssa matches plan order).0.0 (subst (λ d. IsOrderBy d ssa matches plan order) e is)

pub are_packs : (ds : List Description) (matches : List Match) (ssa : Ssa) (deps : List (ℕ × ℕ)) (plan : List Pack)
    → AreKnown ds matches ssa → IsFedPlanFor ds matches ssa deps plan → ArePacks ssa plan
are_packs ds matches ssa deps plan known is = (packs-are-right ds matches ssa deps plan known is).0

pub is_emitted : (ds : List Description) (matches : List Match) (ssa : Ssa) (plan : List Pack) (order : List Node)
    (p : Program)
    → IsOrder ssa matches plan order → IsScheduled (dependences ssa) ssa matches plan order
    → p ≡ planned_program ds matches ssa plan order → IsEmitted ds matches ssa plan p
is_emitted ds matches ssa plan order p is put e = (order, is, put, e)

pub known : (ds : List Description) (matches : List Match) (ssa : Ssa) → IsSound ssa → AllByRecursion IsCallable ds
    → AreMatches ds ssa matches → AreKnown ds matches ssa
known ds matches ssa sound callable matched = record { sound = sound; described = callable; matched = matched }

pub short_packs : (ds : List Description) (matches : List Match) (ssa : Ssa) (deps : List (ℕ × ℕ))
    → AreKnown ds matches ssa → HaveShortPacks ds matches ssa deps
short_packs ds matches ssa deps k plan is = packs-are-short ds matches ssa deps plan k (may-be-fed ds matches ssa deps unfed plan is)

pub short_fed : (ds : List Description) (matches : List Match) (ssa : Ssa) (deps : List (ℕ × ℕ))
    → AreKnown ds matches ssa → HaveShortPacksBy fed_aligned ds matches ssa deps
short_fed ds matches ssa deps k plan is = packs-are-short ds matches ssa deps plan k (may-be-fed ds matches ssa deps fed_aligned plan is)

pub plain_short : (ds : List Description) (matches : List Match) (ssa : Ssa) (deps : List (ℕ × ℕ)) (plan : List Pack)
    → AreKnown ds matches ssa
    → plan ≡ plain_of ds matches ssa deps → AllByRecursion IsShort plan
plain_short ds matches ssa deps plan k e = packs-are-short ds matches ssa deps plan k (may-be-fed ds matches ssa deps unfed plan (plain_is_plan ds matches ssa deps plan e))

-- what the plain plan costs, by the list of all dependences
pub plain-cost : (ds : List Description) (matches : List Match) (ssa : Ssa) (deps : List (ℕ × ℕ)) (plan : List Pack)
    (cost : ℕ)
    → deps ≡ dependences ssa → plan ≡ plain_of ds matches ssa deps
    → cost ≡ plans.cost_of ds matches ssa (dependences ssa) plan
    → cost ≡ plans.cost_of ds matches ssa (dependences ssa) (plain_of ds matches ssa (dependences ssa))
plain-cost ds matches ssa deps plan cost same is e =
    e ∙ ap (plans.cost_of ds matches ssa (dependences ssa)) (is ∙ ap (plain_of ds matches ssa) same)
