use Rattle.std.proofs.Common.{◌≡◌, ◌+◌, ◌-◌, ◌≤◌, length, map}
use Rattle.std.specs.Prelude.{slice_index}
use Rattle.std.specs.List.{find}
use Rattle.vg_paired.specs.ByteLabels.{label_of}
use Rattle.vg_paired.specs.Rows.{AreRows}
use Rattle.vg_paired.specs.Sweeps.{between, is_turned_unit}
use Rattle.vg_paired.proofs.turned.first_turned.Given as goal

abbrev pub invariant-units : goal.invariant-units
invariant-units l =
    (l.left + 1 ≤ length l.begins)
    × AreRows (map label_of l.labels) (slice_index l.lines) (between (slice_index l.begins l.left) (length (map label_of l.labels))) l.rows
    × (l.found ≡ find (is_turned_unit l.flags (map label_of l.labels) l.lines l.begins) (between l.left (length l.begins - 1)))

abbrev pub decreases-units : goal.decreases-units
decreases-units l = l.left
