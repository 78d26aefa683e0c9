use Rattle.std.proofs.Common.{◌≡◌}
use Rattle.vg_plans.specs.World.{follows, same_packs}
use Rattle.vg_beam.specs.SearchSpace.{choice_of, described, world_of}
use Rattle.vg_beam.specs.Candidate.{grown_plans}
use Rattle.vg_beam.specs.BeamPlan.{plans_of}
use Rattle.vg_beam.specs.MetPlans.{IsMet}
use Rattle.vg_beam.proofs.Growing.{grown_from}
use Rattle.vg_beam.proofs.search.candidates.Given as goal

abbrev pub invariant-plans : goal.invariant-plans
invariant-plans l = record {
  met : IsMet (choice_of l.space) (described l.space) l.space.table.now l.space.ssa.now l.space.deps.now l.pack_table.packs.items l.level l.met;
  plans :
      grown_plans l.pack_table.packs.items l.level l.met.candidates.items
      ≡ grown_from (follows (world_of l.space))
      (same_packs (world_of l.space)) (plans_of l.level) l.parent;
}
