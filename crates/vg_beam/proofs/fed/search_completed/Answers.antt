use Rattle.std.proofs.Common.{◌≡◌, ◌∙◌, ◌++◌, ◌∷◌, [], ap, arith, map, subst, sym}
use Rattle.std.proofs.lemmas.Bool.Decides.{nat_tests}
use Rattle.vg_kernel_plans.specs.Completed.{turns_of}
use Rattle.vg_kernel_plans.specs.Fed.{IsPlanBy}
use Rattle.vg_plans.specs.Completed.{completed}
use Rattle.vg_plans.specs.Crowded.{empty}
use Rattle.vg_plans.specs.Levels.{candidates, first_least, kept_of, kept_within, met_within}
use Rattle.vg_plans.specs.Members.{Every}
use Rattle.vg_plans.specs.World.{follows, same_packs}
use Rattle.vg_beam.specs.declared.priced_plan.PricedPlan.{PricedPlan}
use Rattle.vg_beam.specs.SearchSpace.{choice_of, cost_in, described, world_of}
use Rattle.vg_beam.specs.BeamPlan.{IsKept, plans_of}
use Rattle.vg_beam.proofs.Chosen.{beside}
use Rattle.vg_beam.proofs.Growing.{first-kept, first-level, first-met, least-priced, next-kept, next-level, next-met, none-found}
use Rattle.vg_beam.proofs.fed.search_completed.Goals as goal

pub returns-then-none : goal.returns-then-none
returns-then-none c =
    let s = c.args.space.now in
    let w = world_of s in
    let cost = cost_in s in
    let zero : 0 ≡ c.args.sizes = grind (arith, nat_tests, c.if-none.true) in
    let whole = completed w (turns_of s.ssa.now) in
    none-found (follows w) (same_packs w) cost c.args.width whole c.args.first.plan
    ∙ ap (λ n. first_least cost c.args.first.plan (met_within (follows w) (same_packs w) cost c.args.width n ++ map whole (kept_within (follows w) (same_packs w) cost c.args.width n))) zero

pub sizes-init : goal.sizes-init
sizes-init c =
    let s = c.args.space.now in
    let w = world_of s in
    let one = c.in_ok-push.ensures.items ∙ ap (λ l. l ++ c.in_ok-empty.empty ∷ []) c.new-level.ensures.items in
    let first = ap plans_of one ∙ ap (λ p. p ∷ []) c.in_ok-empty.ensures.plan in
    record {
      pack_table = c.in_ok-empty.ensures.pack_table;
      kept = subst (Every (IsKept (choice_of s) (described s) s.table.now s.ssa.now c.empty_plan.new.pack_table.packs.items)) (sym one) (c.in_ok-empty.ensures.kept, tt);
      plans = subst (Every (IsPlanBy (choice_of s) (described s) s.table.now s.ssa.now s.deps.now)) (sym first) (empty, tt);
      level = first-level (follows w) (same_packs w) (cost_in s) c.args.width (plans_of c.push.new.self.items) first;
      best = first-met (follows w) (same_packs w) (cost_in s) c.args.width c.args.first.plan;
      cost = c.requires.cost;
      whole = c.in_ok-whole.ensures.plan ∙ first-kept (follows w) (same_packs w) (cost_in s) c.args.width (completed w (turns_of s.ssa.now)) [];
      whole_cost = c.in_ok-whole.ensures.cost;
    }

pub lesser_completed-requires-clause-plans : goal.lesser_completed-requires-clause-plans
lesser_completed-requires-clause-plans c =
    let s = c.args.space.now in
    subst (λ l. Every (IsPlanBy (choice_of s) (described s) s.table.now s.ssa.now s.deps.now) (plans_of l)) (sym c.as_slice-in-sizes.ensures.value) c.in_ok-turned.ensures.plans

pub lesser_completed-requires-clause-level : goal.lesser_completed-requires-clause-level
lesser_completed-requires-clause-level c =
    let s = c.args.space.now in (
      c.turn.new.pack_table.packs.items,
      subst (λ l. Every (IsKept (choice_of s) (described s) s.table.now s.ssa.now c.turn.new.pack_table.packs.items) l) (sym c.as_slice-in-sizes.ensures.value)
          c.in_ok-turned.ensures.kept,
    )

pub sizes-preserved : goal.sizes-preserved
sizes-preserved c =
    let s = c.args.space.now in
    let w = world_of s in
    let cost = cost_in s in
    let i = c.sizes.invariant in
    let t = c.in_ok-turned.ensures in
    let seen = ap plans_of c.as_slice.ensures.value in
    let kept = t.level ∙ ap (λ l. kept_of cost c.args.width (candidates (follows w) (same_packs w) l)) seen in
    let better = t.best ∙ ap (λ l. first_least cost c.sizes.best.plan (candidates (follows w) (same_packs w) l)) seen in
    let level = next-level (follows w) (same_packs w) cost c.args.width c.sizes._size (plans_of c.sizes.level.items) _ i.level kept in
    let whole = completed w (turns_of s.ssa.now) in
    record {
      pack_table = t.pack_table;
      kept = t.kept;
      plans = t.plans;
      level = level;
      best = next-met (follows w) (same_packs w) cost c.args.width c.sizes._size (plans_of c.sizes.level.items) c.args.first.plan c.sizes.best.plan _
          i.level i.best better;
      cost = t.cost;
      whole = next-kept (follows w) (same_packs w) cost c.args.width whole c.sizes._size _ [] c.sizes.whole.plan _ level i.whole
          (c.in_ok-more.ensures.plan ∙ ap (λ l. first_least cost c.sizes.whole.plan (map whole (plans_of l))) c.as_slice-in-sizes.ensures.value);
      whole_cost = c.in_ok-more.ensures.cost;
    }

pub returns : goal.returns
returns c =
    let s = c.args.space.now in
    let w = world_of s in
    let cost = cost_in s in
    let i = c.sizes.invariant in
    let whole = completed w (turns_of s.ssa.now) in
    let e : c.sizes._size ≡ c.args.sizes = omega (arith, c.sizes-test.false, c.sizes.auto._size-end) in
    let met = met_within (follows w) (same_packs w) cost c.args.width c.sizes._size in
    let kept = map whole (kept_within (follows w) (same_packs w) cost c.args.width c.sizes._size) in
    let least = least-priced (λ (p : PricedPlan). p.plan) (λ (p : PricedPlan). p.cost) cost c.sizes.best (c.sizes.whole ∷ []) i.cost (i.whole_cost, tt) in
    beside (described s) s.table.now s.ssa.now s.deps.now c.args.width c.sizes.best.plan c.args.first.plan c.sizes.whole.plan [] _ met kept c.requires.least
    i.best i.whole (ap (λ (p : PricedPlan). p.plan) c.lesser_plan.ensures ∙ least.0)
    ∙ ap (λ n. first_least cost c.args.first.plan (met_within (follows w) (same_packs w) cost c.args.width n ++ map whole (kept_within (follows w) (same_packs w) cost c.args.width n))) e
