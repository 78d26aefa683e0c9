use Rattle.std.proofs.Common.{◌≡◌, length, map}
use Rattle.std.specs.Prelude.{slice_index}
use Rattle.std.specs.List.{list_any}
use Rattle.vg_events.specs.Events.{label_at}
use Rattle.vg_paired.specs.ByteLabels.{label_of}
use Rattle.vg_paired.specs.Rows.{is_early_by}
use Rattle.vg_paired.specs.Sweeps.{between}
use Rattle.vg_paired.proofs.turned.is_any_early.Given as goal

abbrev pub invariant-events : goal.invariant-events
invariant-events l =
    list_any (λ x. is_early_by l.flags (length l.flags) l.rows (label_at (map label_of l.labels) x) (slice_index l.lines x)) (between l.event l.last)
    ≡ list_any (λ x. is_early_by l.flags (length l.flags) l.rows (label_at (map label_of l.labels) x) (slice_index l.lines x)) (between l.first l.last)
