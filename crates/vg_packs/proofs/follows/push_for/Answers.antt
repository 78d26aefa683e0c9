use Rattle.std.proofs.Common.{map}
use Rattle.vg_shapes.specs.Description.{description_of}
use Rattle.vg_packs.proofs.Tries.{for-operand}
use Rattle.vg_packs.proofs.follows.push_for.Goals as goal

pub returns : goal.returns
returns c =
    for-operand (map description_of c.args.descriptions.now) c.args.table.now c.args.ssa.now c.args.groups.now c.requires.groups c.args.operand.now
    c.args.packs.now.items c.append.new.self.items c.append-2.new.self.items c.in_ok-produce.produce.items c.in_ok-feed.feed.items
    c.in_ok-produce.ensures c.in_ok-append.ensures.items c.in_ok-feed.ensures c.in_ok-append-2.ensures.items
