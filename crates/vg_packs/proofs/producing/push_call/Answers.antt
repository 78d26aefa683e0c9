use Rattle.std.proofs.Common.{map, refl}
use Rattle.vg_shapes.specs.Description.{description_of}
use Rattle.vg_packs.proofs.Beginning.{call-not-begun}
use Rattle.vg_packs.proofs.producing.push_call.Goals as goal

pub returns-then-not-begun : goal.returns-then-not-begun
returns-then-not-begun c =
    call-not-begun (map description_of c.args.descriptions.now) c.args.table.now c.args.ssa.now c.args.operand.now
    c.args.number (description_of c.args.description.now) c.args.slots.now c.can_begin-begun.result c.args.packs.now.items
    c.args.packs.now.items c.requires.produced c.requires.slots c.if-description-operand.false c.can_begin-begun.ensures c.if-not-begun.true refl
