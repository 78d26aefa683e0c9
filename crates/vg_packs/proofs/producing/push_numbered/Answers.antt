use Rattle.std.proofs.Common.{refl}
use Rattle.vg_shapes.specs.Description.{description_of}
use Rattle.vg_packs.proofs.Matched.{not-there, there}
use Rattle.vg_packs.proofs.producing.push_numbered.Goals as goal

pub returns-in-None : goal.returns-in-None
returns-in-None c =
    not-there description_of c.args.descriptions.now c.args.table.now c.args.ssa.now c.args.operand.now c.args.number
    c.args.packs.now.items c.args.packs.now.items c.in-None.ensures.lookup.3 refl

pub returns-in-Some : goal.returns-in-Some
returns-in-Some c =
    rw (there description_of c.args.descriptions.now c.args.table.now c.args.ssa.now c.args.operand.now c.args.number
    c.in-Some.description.now c.in-Some.ensures.lookup.3.0 c.in-Some.ensures.lookup.1) c.push_call.ensures
