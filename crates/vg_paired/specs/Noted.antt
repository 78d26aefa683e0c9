-- Numbers that are noted for labels.
use Rattle.std.specs.Prelude.{◌≡◌, ℕ, Option, Some, if◌then◌else◌}
use Rattle.std.specs.Map.{lookup}
use Rattle.vg_paired.specs.declared.label_numbers.LabelNumbers.{LabelNumbers}
use Rattle.vg_paired.specs.ByteLabels.{label_of}
use Rattle.vg_events.specs.Events.{Label}
use Rattle.vg_events.specs.Ranks.{same_label}

-- the number noted for a label
abbrev pub noted : LabelNumbers → Label → Option ℕ
noted n l = lookup (λ k. same_label l (label_of k)) n.numbers.entries

-- a number is noted for a label, and those of the others stay
abbrev pub Notes : LabelNumbers → LabelNumbers → Label → ℕ → Type 0
Notes old new m k = (l : Label) → noted new l ≡ (if same_label l m then Some k else noted old l)
