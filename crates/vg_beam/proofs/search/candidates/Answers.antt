use Rattle.std.proofs.Common.{[], arith, ap, refl}
use Rattle.vg_kernel_plans.specs.Fed.{IsPlanBy}
use Rattle.vg_plans.specs.World.{follows, same_packs}
use Rattle.vg_beam.specs.SearchSpace.{choice_of, described, world_of}
use Rattle.vg_beam.specs.Candidate.{grown_plans}
use Rattle.vg_beam.specs.BeamPlan.{plan_at, plan_of, plans_of}
use Rattle.vg_beam.proofs.Candidates.{met-first}
use Rattle.vg_beam.proofs.Growing.{plans-end, plans-step}
use Rattle.vg_beam.proofs.Numbers.{every-any, length-map}
use Rattle.vg_beam.proofs.search.candidates.Goals as goal

pub plans-init : goal.plans-init
plans-init c = record {
  met = met-first (choice_of c.args.space.now) (described c.args.space.now) c.args.space.now.table.now c.args.space.now.ssa.now c.args.space.now.deps.now c.args.pack_table.now.packs.items c.args.level.now
      c.new-met.result c.new-met.ensures.candidates c.new-met.ensures.keys;
  plans = ap (grown_plans c.args.pack_table.now.packs.items c.args.level.now) c.new-met.ensures.candidates;
}

pub meet_all-requires-clause-plan : goal.meet_all-requires-clause-plan
meet_all-requires-clause-plan c =
    every-any (IsPlanBy (choice_of c.args.space.now) (described c.args.space.now) c.args.space.now.table.now c.args.space.now.ssa.now c.args.space.now.deps.now) (plans_of c.args.level.now) c.plans.parent [] c.requires.plans
    (omega (arith, c.plans-test.true, length-map plan_of c.args.level.now))

pub plans-preserved : goal.plans-preserved
plans-preserved c =
    let w = world_of c.args.space.now in
    record {
      met = c.in_ok-meet_all.ensures.met;
      plans = plans-step (follows w) (same_packs w) (plans_of c.args.level.now) c.plans.parent (plan_at c.args.level.now c.plans.parent) _ _
          (omega (arith, c.plans-test.true, length-map plan_of c.args.level.now)) refl
          c.plans.invariant.plans c.in_ok-meet_all.ensures.plans;
    }

pub returns-clause-plans : goal.returns-clause-plans
returns-clause-plans c =
    let w = world_of c.args.space.now in
    plans-end (follows w) (same_packs w) (plans_of c.args.level.now) c.plans.parent _
    (omega (arith, c.plans-test.false, length-map plan_of c.args.level.now)) c.plans.invariant.plans
