use Rattle.vg_range.proofs.Instances.{accepted-are-written}
use Rattle.vg_range.proofs.law.accepted_are_written.Goals as goal

pub returns : goal.returns
returns c = accepted-are-written
