use Rattle.std.proofs.Common.{◌≡◌, ◌++◌, replicate}
use Rattle.vg_events.specs.Events.{unit_labels}
use Rattle.vg_paired.specs.Tallies.{Adds}
use Rattle.vg_levelled.proofs.adding.push_copies.Given as goal

abbrev pub invariant-copies : goal.invariant-copies
invariant-copies l =
    (l.units.items ≡ l.initial.units.items ++ replicate l.copy l.unit)
    × Adds l.initial.kernel l.kernel (unit_labels (replicate l.copy l.unit))
