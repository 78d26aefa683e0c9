use Rattle.vg_range_laws.proofs.Instances.{instances-are-static}
use Rattle.vg_range_laws.proofs.law.instances_are_static.Goals as goal

pub returns : goal.returns
returns c = instances-are-static
