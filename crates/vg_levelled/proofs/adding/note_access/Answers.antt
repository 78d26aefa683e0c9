use Rattle.std.proofs.Common.{◌≡◌, arith, subst}
use Rattle.vg_events.specs.Events.{labels_from}
use Rattle.vg_levelled.specs.Adding.{FindsMissing}
use Rattle.vg_levelled.proofs.Missing.{finds-bytes, finds-none}
use Rattle.vg_levelled.proofs.adding.note_access.Goals as goal

pub bytes-init : goal.bytes-init
bytes-init c = finds-none c.args.sides.now c.args.found.now.items

pub bytes-preserved : goal.bytes-preserved
bytes-preserved c =
    finds-bytes c.args.sides.now c.bytes.sides c.note.new.sides c.args.access.writes c.args.access.address
    c.bytes.byte c.of.result c.args.found.now.items c.bytes.found.items c.note.new.found.items c.bytes.invariant
    c.of.ensures c.in_ok-note.ensures

pub returns : goal.returns
returns c =
    let e : c.bytes.byte ≡ c.args.access.size = omega arith in
    subst (λ n. FindsMissing c.args.sides.now c.bytes.sides (labels_from c.args.access.writes c.args.access.address n)
    c.args.found.now.items c.bytes.found.items) e c.bytes.invariant
