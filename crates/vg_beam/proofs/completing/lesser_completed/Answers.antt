use Rattle.std.proofs.Common.{◌∙◌, ◌∷◌, [], ap, arith, refl, subst, sym}
use Rattle.vg_kernel_plans.specs.Completed.{turns_of}
use Rattle.vg_kernel_plans.specs.Fed.{IsPlanBy}
use Rattle.vg_plans.proofs.Lists.{every-has}
use Rattle.vg_plans.specs.Completed.{completed}
use Rattle.vg_plans.specs.Levels.{first_least}
use Rattle.vg_beam.specs.BeamPlan.{IsKept, plan_at, plan_of, plans_of}
use Rattle.vg_beam.specs.SearchSpace.{choice_of, cost_in, described, world_of}
use Rattle.vg_beam.proofs.Completion.{completed-end, completed-one}
use Rattle.vg_beam.proofs.Numbers.{every-any, length-map}
use Rattle.vg_beam.proofs.completing.lesser_completed.Goals as goal

pub lesser_with-requires-clause-plan : goal.lesser_with-requires-clause-plan
lesser_with-requires-clause-plan c =
    let s = c.args.space.now in
    let is = IsPlanBy (choice_of s) (described s) s.table.now s.ssa.now s.deps.now in
    subst is (sym c.kept_at-kept.ensures.plan)
    (every-any is (plans_of c.args.level.now) c.plans.place [] c.requires.plans (omega (arith, c.plans-test.true, length-map plan_of c.args.level.now)))

pub lesser_with-requires-clause-stands : goal.lesser_with-requires-clause-stands
lesser_with-requires-clause-stands c =
    let s = c.args.space.now in
    (every-has (IsKept (choice_of s) (described s) s.table.now s.ssa.now c.requires.level.0) c.kept_at-kept.result.now c.args.level.now
    c.requires.level.1 c.kept_at-kept.ensures.member).stands

pub plans-preserved : goal.plans-preserved
plans-preserved c =
    let s = c.args.space.now in
    let whole = completed (world_of s) (turns_of s.ssa.now) in
    record {
      plan = completed-one (cost_in s) whole c.args.best.plan (plans_of c.args.level.now) c.plans.place (plan_at c.args.level.now c.plans.place)
          c.plans.least.plan c.in_ok-better.better.plan (omega (arith, c.plans-test.true, length-map plan_of c.args.level.now)) refl
          c.plans.invariant.plan
          (c.in_ok-better.ensures.plan ∙ ap (λ p. first_least (cost_in s) c.plans.least.plan (whole p ∷ [])) c.kept_at-kept.ensures.plan);
      cost = c.in_ok-better.ensures.cost;
    }

pub returns-clause-plan : goal.returns-clause-plan
returns-clause-plan c =
    let s = c.args.space.now in
    completed-end (cost_in s) (completed (world_of s) (turns_of s.ssa.now)) c.args.best.plan c.plans.least.plan (plans_of c.args.level.now) c.plans.place
    (omega (arith, c.plans-test.false, length-map plan_of c.args.level.now)) c.plans.invariant.plan
