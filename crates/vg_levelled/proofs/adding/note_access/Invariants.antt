use Rattle.vg_events.specs.Events.{labels_from}
use Rattle.vg_levelled.specs.Adding.{FindsMissing}
use Rattle.vg_levelled.proofs.adding.note_access.Given as goal

abbrev pub invariant-bytes : goal.invariant-bytes
invariant-bytes l =
    FindsMissing l.initial.sides l.sides (labels_from l.access.writes l.access.address l.byte) l.initial.found.items
    l.found.items
