use Rattle.std.proofs.Common.{List, [], subst}
use Rattle.vg_events.specs.Events.{unit_labels}
use Rattle.vg_paired.specs.declared.byte_label.ByteLabel.{ByteLabel}
use Rattle.vg_levelled.specs.Adding.{FindsMissing}
use Rattle.vg_levelled.proofs.Missing.{finds-more}
use Rattle.vg_levelled.proofs.added.loads_for.Goals as goal

pub returns : goal.returns
returns c =
    finds-more c.args.sides.now c.note_units.new.sides c.note_units-2.new.sides (unit_labels c.args.units.now)
    (unit_labels c.args.added.now) []
    c.note_units.new.found.items c.note_units-2.new.found.items
    (subst (λ (l : List ByteLabel). FindsMissing c.args.sides.now c.note_units.new.sides (unit_labels c.args.units.now)
    l c.note_units.new.found.items) c.new-loads.ensures.items c.in_ok-note_units.ensures)
    c.in_ok-note_units-2.ensures
