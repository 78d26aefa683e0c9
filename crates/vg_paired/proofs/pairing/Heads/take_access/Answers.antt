use Rattle.std.proofs.Common.{arith}
use Rattle.vg_paired.proofs.Heads.{pairs-begin, pairs-turn, pairs-whole}
use Rattle.vg_paired.proofs.pairing.Heads.take_access.Goals as goal

pub bytes-init : goal.bytes-init
bytes-init c ls done a = (c.new-events.ensures.items, (pairs-begin c.args.self.now ls done a).1)

pub bytes-preserved : goal.bytes-preserved
bytes-preserved c =
    pairs-turn c.args.self.now c.bytes.self c.take.new.self c.args.access.writes c.args.access.address c.bytes.byte c.of.result c.in_ok-event.event c.bytes.events.items
    c.push.new.self.items c.bytes.invariant c.of.ensures c.in_ok-event.ensures c.in_ok-push.ensures.items

pub returns : goal.returns
returns c =
    pairs-whole c.args.self.now c.bytes.self c.args.access.writes c.args.access.address c.bytes.byte c.args.access.size c.bytes.events.items c.from_vec.result
    c.from_vec.ensures (omega arith) c.bytes.invariant
