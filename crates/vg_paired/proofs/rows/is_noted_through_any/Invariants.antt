use Rattle.std.proofs.Common.{◌≡◌}
use Rattle.vg_paired.specs.ByteLabels.{label_of}
use Rattle.vg_paired.specs.Rows.{any_below, is_noted_through}
use Rattle.vg_paired.proofs.rows.is_noted_through_any.Given as goal

abbrev pub invariant-pointers : goal.invariant-pointers
invariant-pointers l = any_below l.left (is_noted_through l.flags l.row (label_of l.label) l.line) ≡ any_below l.initial.left (is_noted_through l.flags l.row (label_of l.label) l.line)

abbrev pub decreases-pointers : goal.decreases-pointers
decreases-pointers l = l.left
