use Rattle.vg_emit_laws.proofs.Emitted.{plans-can-be-emitted}
use Rattle.vg_emit_laws.proofs.law.plans_can_be_emitted.Goals as goal

pub returns : goal.returns
returns c = plans-can-be-emitted
