use Rattle.std.proofs.Common.{◌≡◌, ◌≤◌, ◌+◌, ℕ, length, map, take}
use Rattle.std.specs.Prelude.{slice_index}
use Rattle.vg_events.specs.Events.{labels}
use Rattle.vg_paired.specs.ByteLabels.{label_of}
use Rattle.vg_paired.proofs.spans.spans_of.Given as goal

abbrev pub invariant-accesses : goal.invariant-accesses
invariant-accesses l =
    (map label_of l.labels.items ≡ labels (take l.access-index l.accesses))
    × (length l.begins.items ≡ l.access-index + 1)
    × ((k : ℕ) → k ≤ l.access-index → slice_index l.begins.items k ≡ length (labels (take k l.accesses)))
