use Rattle.vg_plan_laws.proofs.Planned.{operands-are-sound}
use Rattle.vg_plan_laws.proofs.law.operands_are_sound.Goals as goal

pub returns : goal.returns
returns c = operands-are-sound
