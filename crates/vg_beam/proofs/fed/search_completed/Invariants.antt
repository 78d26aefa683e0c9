use Rattle.std.proofs.Common.{◌≡◌, [], map}
use Rattle.vg_kernel_plans.specs.Completed.{turns_of}
use Rattle.vg_kernel_plans.specs.Fed.{IsPlanBy}
use Rattle.vg_plans.specs.Completed.{completed}
use Rattle.vg_plans.specs.Levels.{first_least, kept_within, level_of, met_within}
use Rattle.vg_plans.specs.Members.{Every}
use Rattle.vg_plans.specs.World.{follows, same_packs}
use Rattle.vg_beam.specs.SearchSpace.{choice_of, cost_in, described, world_of}
use Rattle.vg_beam.specs.PackTable.{IsPackTable}
use Rattle.vg_beam.specs.BeamPlan.{IsKept, plans_of}
use Rattle.vg_beam.proofs.fed.search_completed.Given as goal

abbrev pub invariant-sizes : goal.invariant-sizes
invariant-sizes l = record {
  pack_table : IsPackTable (choice_of l.space) (described l.space) l.space.table.now l.space.ssa.now l.pack_table;
  kept : Every (IsKept (choice_of l.space) (described l.space) l.space.table.now l.space.ssa.now l.pack_table.packs.items) l.level.items;
  plans : Every (IsPlanBy (choice_of l.space) (described l.space) l.space.table.now l.space.ssa.now l.space.deps.now) (plans_of l.level.items);
  level :
      plans_of l.level.items
      ≡ level_of (follows (world_of l.space)) (same_packs (world_of l.space)) (cost_in l.space) l.width l._size;
  best :
      l.best.plan
      ≡ first_least (cost_in l.space) l.fn.first.plan
      (met_within (follows (world_of l.space)) (same_packs (world_of l.space)) (cost_in l.space) l.width l._size);
  cost : l.best.cost ≡ cost_in l.space l.best.plan;
  whole :
      l.whole.plan
      ≡ first_least (cost_in l.space) []
      (map (completed (world_of l.space) (turns_of l.space.ssa.now)) (kept_within (follows (world_of l.space)) (same_packs (world_of l.space)) (cost_in l.space) l.width l._size));
  whole_cost : l.whole.cost ≡ cost_in l.space l.whole.plan;
}
