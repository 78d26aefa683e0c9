use Rattle.std.proofs.Common.{◌≡◌, ◌∙◌, ◌++◌, ◌∷◌, [], ap, arith, subst, sym}
use Rattle.std.proofs.lemmas.Bool.Decides.{nat_tests}
use Rattle.vg_kernel_plans.specs.Fed.{IsPlanBy}
use Rattle.vg_plans.specs.Crowded.{empty}
use Rattle.vg_plans.specs.Levels.{candidates, first_least, kept_of, met_within}
use Rattle.vg_plans.specs.Members.{Every}
use Rattle.vg_plans.specs.World.{follows, same_packs}
use Rattle.vg_beam.specs.SearchSpace.{choice_of, cost_in, described, world_of}
use Rattle.vg_beam.specs.BeamPlan.{IsKept, plans_of}
use Rattle.vg_beam.proofs.Growing.{first-level, first-met, next-level, next-met}
use Rattle.vg_beam.proofs.choosing.search.Goals as goal

pub returns-then-none : goal.returns-then-none
returns-then-none c =
    let w = world_of c.args.space.now in
    let cost = cost_in c.args.space.now in
    let zero : 0 ≡ c.args.sizes = grind (arith, nat_tests, c.if-none.true) in
    first-met (follows w) (same_packs w) cost c.args.width c.args.first.plan
    ∙ ap (λ n. first_least cost c.args.first.plan (met_within (follows w) (same_packs w) cost c.args.width n)) zero

pub sizes-init : goal.sizes-init
sizes-init c =
    let s = c.args.space.now in
    let w = world_of s in
    let one = c.in_ok-push.ensures.items ∙ ap (λ l. l ++ c.in_ok-empty.empty ∷ []) c.new-level.ensures.items in
    let first = ap plans_of one ∙ ap (λ p. p ∷ []) c.in_ok-empty.ensures.plan in
    record {
      pack_table = c.in_ok-empty.ensures.pack_table;
      kept = subst (Every (IsKept (choice_of s) (described s) s.table.now s.ssa.now c.empty_plan.new.pack_table.packs.items)) (sym one) (c.in_ok-empty.ensures.kept, tt);
      plans = subst (Every (IsPlanBy (choice_of s) (described s) s.table.now s.ssa.now s.deps.now)) (sym first) (empty, tt);
      level = first-level (follows w) (same_packs w) (cost_in s) c.args.width (plans_of c.push.new.self.items) first;
      best = first-met (follows w) (same_packs w) (cost_in s) c.args.width c.args.first.plan;
      cost = c.requires.cost;
    }

pub sizes-preserved : goal.sizes-preserved
sizes-preserved c =
    let s = c.args.space.now in
    let w = world_of s in
    let cost = cost_in s in
    let i = c.sizes.invariant in
    let t = c.in_ok-turned.ensures in
    let seen = ap plans_of c.as_slice.ensures.value in
    let kept = t.level ∙ ap (λ l. kept_of cost c.args.width (candidates (follows w) (same_packs w) l)) seen in
    let better = t.best ∙ ap (λ l. first_least cost c.sizes.best.plan (candidates (follows w) (same_packs w) l)) seen in
    record {
      pack_table = t.pack_table;
      kept = t.kept;
      plans = t.plans;
      level = next-level (follows w) (same_packs w) cost c.args.width c.sizes._size (plans_of c.sizes.level.items) _ i.level kept;
      best = next-met (follows w) (same_packs w) cost c.args.width c.sizes._size (plans_of c.sizes.level.items) c.args.first.plan c.sizes.best.plan _
          i.level i.best better;
      cost = t.cost;
    }

pub returns : goal.returns
returns c =
    let w = world_of c.args.space.now in
    let cost = cost_in c.args.space.now in
    let e : c.sizes._size ≡ c.args.sizes = omega (arith, c.sizes-test.false, c.sizes.auto._size-end) in
    c.sizes.invariant.best ∙ ap (λ n. first_least cost c.args.first.plan (met_within (follows w) (same_packs w) cost c.args.width n)) e
