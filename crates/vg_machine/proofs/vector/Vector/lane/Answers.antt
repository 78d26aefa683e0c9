use Rattle.std.proofs.Common.{arith}
use Rattle.vg_machine.proofs.Registers.{lane_room, lane_answer}
use Rattle.vg_machine.proofs.vector.Vector.lane.Goals as goal

pub get-number-requires : goal.get-number-requires
get-number-requires c =
    let room = lane_room c.bits-bits.result c.args.width c.args.lane c.self.inside.size c.self.inside.register.bytes c.args.self.now c.self.view_is c.self.invariant.0 c.bits-bits.ensures c.requires in
    (omega arith, (room.least, (room.most, room.inside)))

pub returns : goal.returns
returns c = lane_answer c.narrow.result c.get-number.result c.bits-bits.result c.args.width c.args.lane c.self.inside.size c.self.inside.register.bytes c.args.self.now c.self.view_is c.bits-bits.ensures c.narrow.ensures c.get-number.ensures.bits c.requires
