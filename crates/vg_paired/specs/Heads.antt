-- The next event of each label, as events are taken one by one.
use Rattle.std.specs.Prelude.{◌≡◌, ◌<◌, ◌≤◌, ℕ, zero, suc, List, [], ◌∷◌, ◌++◌, length, slice_index, Option, unwrap_or}
use Rattle.vg_shapes.specs.declared.access.Access.{Access}
use Rattle.vg_paired.specs.declared.pairing.Heads.{Heads}
use Rattle.vg_paired.specs.declared.label_numbers.LabelNumbers.{LabelNumbers}
use Rattle.vg_events.specs.Events.{Label, labels}
use Rattle.vg_paired.specs.Noted.{noted}
use Rattle.vg_events.specs.Ranks.{count_label, event_at, paired, pairing}

-- the next event of the label of this one
abbrev pub event_behind : List Label → ℕ → ℕ
event_behind [] e = 0
event_behind (x ∷ xs) zero = suc (event_at x 0 xs)
event_behind (x ∷ xs) (suc e) = suc (event_behind xs e)

-- the first event of a label that is not before this number
abbrev pub first_from : Label → ℕ → List Label → ℕ
first_from l k [] = 0
first_from l zero (x ∷ xs) = event_at l 0 (x ∷ xs)
first_from l (suc k) (x ∷ xs) = suc (first_from l k xs)

-- the same of events that are not before this number alone
pub record AreHeadsFrom (ls : List Label) (k : ℕ) (heads : LabelNumbers) (behind : List ℕ) : Type 0 where
  pub first : (l : Label) → unwrap_or (noted heads l) (length ls) ≡ first_from l k ls
  pub next : (e : ℕ) → k ≤ e → e < length ls → slice_index behind e ≡ event_behind ls e
  pub all : length behind ≡ length ls

-- after those that are done, for each label its next event, and for each event the next one of its label
pub record AreHeads (ls done : List Label) (h : Heads) : Type 0 where
  pub first : (l : Label) → unwrap_or (noted h.first l) (length ls) ≡ event_at l (count_label l done) ls
  pub next : (e : ℕ) → e < length ls → slice_index h.next.items e ≡ event_behind ls e
  pub all : length h.next.items ≡ length ls

-- events of these labels are taken
abbrev pub Pairs : Heads → Heads → List Label → List ℕ → Type 0
Pairs old new more es =
    (ls done : List Label) → AreHeads ls done old →
    (es ≡ paired ls done more) × AreHeads ls (done ++ more) new

-- the events of accesses are taken
abbrev pub PairsAll : Heads → Heads → List (Option Access) → List (List ℕ) → Type 0
PairsAll old new xs ess =
    (ls done : List Label) → AreHeads ls done old →
    (ess ≡ pairing ls done xs) × AreHeads ls (done ++ labels xs) new
