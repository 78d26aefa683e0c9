use Rattle.std.proofs.Common.{arith, map}
use Rattle.vg_shapes.specs.Description.{description_of}
use Rattle.vg_packs.proofs.Matched.{all-pushed}
use Rattle.vg_packs.proofs.producing.push_calls.Goals as goal

pub returns : goal.returns
returns c =
    all-pushed (map description_of c.args.descriptions.now) c.args.table.now c.args.ssa.now c.args.operand.now
    c.args.slots.now c.beginnings-begun.result.now c.matches.next c.matches.found-index c.matches.packs.items c.args.packs.now.items
    c.requires.produced c.requires.slots c.beginnings-begun.ensures c.as_slice-in_order.ensures.order
    (omega (arith, c.matches-test.false)) c.matches.invariant
