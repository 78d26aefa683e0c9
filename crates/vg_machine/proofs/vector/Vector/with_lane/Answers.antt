use Rattle.std.proofs.Common.{arith}
use Rattle.vg_machine.proofs.Registers.{lane_room, put_long, put_answer}
use Rattle.vg_machine.proofs.vector.Vector.with_lane.Goals as goal

pub put-requires : goal.put-requires
put-requires c =
    let room = lane_room c.bits-bits.result c.args.width c.args.lane c.self.inside.size c.self.inside.register.bytes c.args.self.now c.self.view_is c.self.invariant.0 c.bits-bits.ensures c.requires in
    (omega arith, (room.least, (room.most, room.inside)))

pub invariant_of-result : goal.invariant_of-result
invariant_of-result c =
    let long = put_long c.bits-bits.result c.args.width c.args.lane c.args.number c.self.inside.size c.self.inside.register.bytes c.put.new.self.bytes c.args.self.now c.self.view_is c.bits-bits.ensures c.requires c.put.ensures in
    (c.self.invariant.0, omega (arith, long, c.self.invariant.1))

pub returns : goal.returns
returns c = put_answer c.bits-bits.result c.args.width c.args.lane c.args.number c.self.inside.size c.self.inside.register.bytes c.put.new.self.bytes c.args.self.now c.self.view_is c.bits-bits.ensures c.self.invariant.1 c.requires c.put.ensures
