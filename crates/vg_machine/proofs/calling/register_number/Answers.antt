use Rattle.vg_base.specs.Bits.{bits_of_bytes}
use Rattle.vg_machine.proofs.Calls.{number_none}
use Rattle.vg_machine.proofs.calling.register_number.Goals as goal

pub returns-in-None : goal.returns-in-None
returns-in-None c = number_none (bits_of_bytes c.zero.result.bytes) c.args.vectors.now c.args.number c.zero.ensures c.in-None.ensures.lookup.3
