use Rattle.vg_instance_laws.proofs.WidePlan.{wide-plan-means-units}
use Rattle.vg_instance_laws.proofs.law.wide_plan_means_units.Goals as goal

pub returns : goal.returns
returns c = wide-plan-means-units
