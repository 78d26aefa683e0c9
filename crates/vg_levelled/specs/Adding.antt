-- What is found to be added, by the events that were counted.
use Rattle.std.specs.Prelude.{◌≡◌, ◌≤◌, ℕ, false, nat_le, List, ◌++◌, drop, length, map, Option, Some, None}
use Rattle.vg_shapes.specs.declared.ssa_unit.SsaUnit.{SsaUnit}
use Rattle.vg_events.specs.Events.{Label, unit_labels}
use Rattle.vg_paired.specs.declared.byte_label.ByteLabel.{ByteLabel}
use Rattle.vg_paired.specs.ByteLabels.{label_of}
use Rattle.vg_paired.specs.Tallies.{Counts}
use Rattle.vg_levelled.specs.declared.sides.Sides.{Sides}
use Rattle.vg_levelled.specs.Levelled.{added_units, missing}

-- these are the events of both sides
pub record Counted (ks ps : List Label) (s : Sides) : Type 0 where
  pub kernel : Counts ks s.kernel
  pub program : Counts ps s.program

-- among these labels those that are missing are found, and counted as the program's
abbrev pub FindsMissing : Sides → Sides → List Label → List ByteLabel → List ByteLabel → Type 0
FindsMissing old new ls before after =
    (ks ps : List Label) → Counted ks ps old →
    let found = missing old.met.items ks ps ls in
    (map label_of after ≡ map label_of before ++ found) × Counted ks (ps ++ found) new × (new.met ≡ old.met)

-- the units that are added to these are found, and counted as the kernel's; there are none where they are more
-- than 8,192
abbrev pub FindsUnits : Sides → Sides → List SsaUnit → Option (List SsaUnit) → Type 0
FindsUnits old new us None =
    (ks ps : List Label) → Counted ks ps old →
    nat_le (length (added_units old.met.items ks ps us)) 8192 ≡ false
FindsUnits old new us (Some found) =
    (ks ps : List Label) → Counted ks ps old →
    (found ≡ added_units old.met.items ks ps us) × Counted (ks ++ unit_labels found) ps new × (new.met ≡ old.met)

-- The units before a place are done: so many are added to them, and with those that are added to the rest they
-- are all.
abbrev pub IsOnWay : Sides → Sides → List SsaUnit → ℕ → List SsaUnit → Type 0
IsOnWay old now us place done =
    (length done ≤ 8192)
    × ((ks ps : List Label) → Counted ks ps old →
    (done ++ added_units old.met.items (ks ++ unit_labels done) ps (drop place us) ≡ added_units old.met.items ks ps us)
    × Counted (ks ++ unit_labels done) ps now × (now.met ≡ old.met))
