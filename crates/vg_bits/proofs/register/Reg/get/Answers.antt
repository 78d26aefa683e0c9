use Rattle.vg_base.specs.Bits.{bits_of_bytes}
use Rattle.vg_bits.proofs.BitLists.{num-range_below}
use Rattle.vg_bits.proofs.ByteLists.{IsBits-bits_of_bytes}
use Rattle.vg_bits.proofs.register.Reg.get.Goals as goal

pub returns-clause-below : goal.returns-clause-below
returns-clause-below g c =
    let bytes = c.args.self.now.bytes in
    rw c.read.ensures (num-range_below _ c.args.width (bits_of_bytes bytes) (IsBits-bits_of_bytes bytes))
