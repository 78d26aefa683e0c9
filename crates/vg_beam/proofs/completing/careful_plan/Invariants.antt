use Rattle.std.proofs.Common.{◌≡◌, [], drop}
use Rattle.vg_kernel_plans.specs.Completed.{turns_of}
use Rattle.vg_kernel_plans.specs.Fed.{IsPlanBy}
use Rattle.vg_plans.specs.Completed.{careful_with_all}
use Rattle.vg_beam.specs.SearchSpace.{choice_of, cost_in, described, world_of}
use Rattle.vg_beam.proofs.completing.careful_plan.Given as goal

abbrev pub invariant-groups : goal.invariant-groups
invariant-groups l = record {
  plan :
      careful_with_all (world_of l.space) (turns_of l.space.ssa.now) l.best.plan (drop l.group-index l.groups)
      ≡ careful_with_all (world_of l.space) (turns_of l.space.ssa.now) [] l.groups;
  is : IsPlanBy (choice_of l.space) (described l.space) l.space.table.now l.space.ssa.now l.space.deps.now l.best.plan;
  cost : l.best.cost ≡ cost_in l.space l.best.plan;
}
