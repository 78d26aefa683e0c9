use Rattle.std.proofs.Common.{◌≡◌}
use Rattle.std.specs.List.{list_all}
use Rattle.vg_events.specs.Events.{labels_from}
use Rattle.vg_paired.specs.Tallies.{count_in}
use Rattle.vg_levelled.specs.Levelled.{is_common}
use Rattle.vg_levelled.proofs.sides.Sides.are_common.Given as goal

abbrev pub invariant-bytes : goal.invariant-bytes
invariant-bytes l =
    l.all ≡ list_all (is_common l.self.met.items (count_in l.self.kernel) (count_in l.self.program))
    (labels_from l.access.writes l.access.address l.byte)
