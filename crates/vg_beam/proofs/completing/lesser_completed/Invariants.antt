use Rattle.std.proofs.Common.{◌≡◌, map, take}
use Rattle.vg_kernel_plans.specs.Completed.{turns_of}
use Rattle.vg_plans.specs.Completed.{completed}
use Rattle.vg_plans.specs.Levels.{first_least}
use Rattle.vg_beam.specs.BeamPlan.{plans_of}
use Rattle.vg_beam.specs.SearchSpace.{cost_in, world_of}
use Rattle.vg_beam.proofs.completing.lesser_completed.Given as goal

abbrev pub invariant-plans : goal.invariant-plans
invariant-plans l = record {
  plan :
      l.least.plan
      ≡ first_least (cost_in l.space) l.fn.best.plan
      (map (completed (world_of l.space) (turns_of l.space.ssa.now)) (take l.place (plans_of l.level)));
  cost : l.least.cost ≡ cost_in l.space l.least.plan;
}
