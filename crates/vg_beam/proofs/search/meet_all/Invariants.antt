use Rattle.std.proofs.Common.{map, take}
use Rattle.vg_beam.specs.SearchSpace.{choice_of, described}
use Rattle.vg_cost.specs.PriceScratch.{IsScratchFor}
use Rattle.vg_beam.specs.PackTable.{pack_at}
use Rattle.vg_beam.specs.BeamPlan.{plan_at}
use Rattle.vg_beam.specs.MetPlans.{Meets}
use Rattle.vg_beam.proofs.search.meet_all.Given as goal

abbrev pub invariant-packs : goal.invariant-packs
invariant-packs l =
    Meets (choice_of l.space) (described l.space) l.space.table.now l.space.ssa.now l.space.deps.now l.pack_table.packs.items l.level (plan_at l.level l.parent)
    (map (pack_at l.pack_table.packs.items) (take l.pack-index l.numbers)) l.initial.met l.met
    × IsScratchFor l.space.ssa.now (plan_at l.level l.parent) l.scratch
