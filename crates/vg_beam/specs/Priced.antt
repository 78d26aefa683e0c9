-- Plans with their costs.
use Rattle.std.specs.Prelude.{List, map}
use Rattle.vg_shapes.specs.declared.pack.Pack.{Pack}
use Rattle.vg_beam.specs.declared.candidate.Candidate.{Candidate}
use Rattle.vg_beam.specs.declared.beam_plan.BeamPlan.{BeamPlan}
use Rattle.vg_beam.specs.declared.priced_plan.PricedPlan.{PricedPlan}
use Rattle.vg_beam.specs.Candidate.{grown_plan}

-- the plan of a candidate with what it costs
abbrev pub priced : List Pack → List BeamPlan → Candidate → PricedPlan
priced packs level c = record { plan = grown_plan packs level c; cost = c.cost }

abbrev pub priced_plans : List Pack → List BeamPlan → List Candidate → List PricedPlan
priced_plans packs level met = map (priced packs level) met
