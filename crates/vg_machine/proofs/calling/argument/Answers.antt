use Rattle.vg_base.specs.Bits.{bits_of_bytes, num}
use Rattle.vg_program.specs.Meaning.{register_bits}
use Rattle.vg_machine.proofs.Calls.{argument_none}
use Rattle.vg_machine.proofs.calling.argument.Goals as goal

pub returns-in-None : goal.returns-in-None
returns-in-None c = argument_none (bits_of_bytes c.zero.result.bytes) (λ v. num (register_bits c.args.vectors.now v)) c.args.registers.now c.args.at c.zero.ensures c.in-None.ensures.lookup.3
