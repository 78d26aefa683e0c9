use Rattle.std.proofs.Common.{take}
use Rattle.vg_events.specs.Events.{unit_labels}
use Rattle.vg_levelled.specs.Adding.{FindsMissing}
use Rattle.vg_levelled.proofs.adding.note_units.Given as goal

abbrev pub invariant-units : goal.invariant-units
invariant-units l =
    FindsMissing l.initial.sides l.sides (unit_labels (take l.unit-index l.units)) l.initial.found.items l.found.items
