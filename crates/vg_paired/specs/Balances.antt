-- How many events of each label are left after those of some lines, and of which labels these have too many.
use Rattle.std.specs.Prelude.{◌≡◌, ℕ, ◌-◌, ◌&&◌, ◌||◌, Bool, true, false, List, ◌++◌, Option, Some, None, nat_lt, unwrap_or}
use Rattle.std.specs.List.{list_any}
use Rattle.std.specs.Option.{option_map}
use Rattle.vg_paired.specs.declared.balance.Balance.{Balance}
use Rattle.vg_paired.specs.declared.label_numbers.LabelNumbers.{LabelNumbers}
use Rattle.vg_paired.specs.ByteLabels.{label_of}
use Rattle.vg_paired.specs.Noted.{noted}
use Rattle.vg_events.specs.Events.{Label}
use Rattle.vg_known.specs.Labels.{is_before}
use Rattle.vg_events.specs.Ranks.{count_label, same_label}

-- the number of a label; 0 where none is noted
abbrev pub number_of : LabelNumbers → Label → ℕ
number_of n l = unwrap_or (noted n l) 0

-- the least of the labels of which this holds, if there are any
abbrev pub IsLeast : (Label → Bool) → Option Label → Type 0
IsLeast p None = (l : Label) → p l ≡ false
IsLeast p (Some b) = (p b ≡ true) × ((l : Label) → is_before l b ≡ true → p l ≡ false)

-- there are more events of a label than it has
abbrev pub is_over : List Label → List Label → Label → Bool
is_over ls done l = nat_lt (count_label l ls) (count_label l done)

-- of each label so many events are left after these, and the least of which they have too many
pub record IsBalance (ls done : List Label) (b : Balance) : Type 0 where
  pub left : (l : Label) → number_of b.left l ≡ count_label l ls - count_label l done
  pub least : IsLeast (is_over ls done) (option_map label_of b.least)

-- these are done, too
abbrev pub Takes : Balance → Balance → List Label → Type 0
Takes old new more =
    (ls done : List Label) → IsBalance ls done old → IsBalance ls (done ++ more) new

-- among these there are more events of the label
abbrev pub is_left : LabelNumbers → List Label → Label → Bool
is_left n ls l = list_any (same_label l) ls && nat_lt 0 (number_of n l)

-- the least of those of which this or that holds
abbrev pub WithLeft : LabelNumbers → List Label → Option Label → Option Label → Type 0
WithLeft n ls old new =
    (p : Label → Bool) → IsLeast p old → IsLeast (λ l. p l || is_left n ls l) new
