use Rattle.std.proofs.Common.{◌∙◌}
use Rattle.vg_machine.specs.ReadyInstance.{instances_of}
use Rattle.vg_machine.proofs.Calls.{call_is}
use Rattle.vg_machine.proofs.calling.call.Goals as goal

pub returns-clause-value : goal.returns-clause-value
returns-clause-value c = λ name does.
    c.of.ensures ∙ call_is (instances_of c.args.instances.now) c.args.place name c.args.registers.now c.args.vectors.now c.args.imm c.args.bits c.imm_number.result _ c.answer-answer.result does c.imm_number.ensures c.arguments-params.ensures c.answer-answer.ensures.bits
