use Rattle.vg_plan_relations.proofs.Rising.{sound-rises}
use Rattle.vg_plan_relations.proofs.law.sound_operands_rise.Goals as goal

pub returns : goal.returns
returns c = sound-rises
