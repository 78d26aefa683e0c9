use Rattle.std.proofs.Common.{[]}
use Rattle.vg_beam.specs.BeamPlan.{plan_of}
use Rattle.vg_beam.proofs.Numbers.{has-at, map-at}
use Rattle.vg_beam.proofs.beam_plan.kept_at.Goals as goal

pub returns-clause-member : goal.returns-clause-member
returns-clause-member c = has-at c.args.level.now c.args.place c.index-level-place.result c.requires c.index-level-place.is

pub returns-clause-plan : goal.returns-clause-plan
returns-clause-plan c = map-at plan_of c.args.level.now c.args.place c.index-level-place.result [] c.requires c.index-level-place.is
