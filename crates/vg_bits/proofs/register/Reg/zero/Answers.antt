use Rattle.vg_bits.proofs.ByteLists.{bits_of_bytes-zero}
use Rattle.vg_bits.proofs.register.Reg.zero.Goals as goal

pub returns : goal.returns
returns g c = bits_of_bytes-zero g.row.B
