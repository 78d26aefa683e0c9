use Rattle.std.proofs.Common.{arith}
use Rattle.vg_bits.proofs.ByteLists.{IsBytes-from_reads}
use Rattle.vg_machine.proofs.vector.front.Goals as goal

pub returns-clause-bytes : goal.returns-clause-bytes
returns-clause-bytes c = IsBytes-from_reads c.args.bytes.now (λ k lt. omega (arith, c.type_inv.bytes k))
