use Rattle.std.proofs.Common.{◌≡◌, ◌+◌, ◌-◌, length, map}
use Rattle.std.specs.List.{find}
use Rattle.vg_paired.specs.ByteLabels.{label_of}
use Rattle.vg_paired.specs.Sweeps.{between, has_early}
use Rattle.vg_paired.proofs.turned.second_turned.Given as goal

abbrev pub invariant-units : goal.invariant-units
invariant-units l =
    find (has_early l.flags (map label_of l.labels) l.lines l.begins l.unit) (between l.later (length l.begins - 1))
    ≡ find (has_early l.flags (map label_of l.labels) l.lines l.begins l.unit) (between (l.unit + 1) (length l.begins - 1))
