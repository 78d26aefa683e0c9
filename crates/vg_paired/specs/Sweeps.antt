-- Units whose events stand too early, as a sweep over all units finds them.
use Rattle.std.specs.Prelude.{◌≡◌, ◌<◌, ◌≤◌, ℕ, zero, suc, ◌+◌, ◌-◌, Bool, List, [], ◌∷◌, length, map, take, slice_index, nat_lt, Option, if◌then◌else◌}
use Rattle.std.specs.List.{find, list_any}
use Rattle.std.specs.Option.{option_map}
use Rattle.vg_base.specs.Trap.{◌>>=◌}
use Rattle.vg_shapes.specs.declared.access.Access.{Access}
use Rattle.vg_shapes.specs.Order.{count_of, numbers_from}
use Rattle.vg_events.specs.Events.{Label, label_at, labels}
use Rattle.vg_events.specs.Orders.{line_of}
use Rattle.vg_known.specs.Difference.{Difference, order}
use Rattle.vg_paired.specs.declared.rows.Rows.{Rows as Table}
use Rattle.vg_paired.specs.declared.spans.Spans.{Spans}
use Rattle.vg_paired.specs.ByteLabels.{label_of}
use Rattle.vg_paired.specs.Rows.{AreRows, is_early}

-- ---- lines of events

-- the line of an event, told by the lines from this one on
abbrev pub line_from : ℕ → ℕ → List (List ℕ) → ℕ
line_from k e [] = 0
line_from zero e (es ∷ ess) = line_of e (es ∷ ess)
line_from (suc k) e (es ∷ ess) = suc (line_from k e ess)

abbrev pub AreLinesFrom : List (List ℕ) → ℕ → List ℕ → Type 0
AreLinesFrom lines k numbers =
    (e : ℕ) → e < length numbers → slice_index numbers e ≡ line_from k e lines

-- these events have this line, and the others keep theirs
abbrev pub SetsAll : List ℕ → List ℕ → List ℕ → ℕ → Type 0
SetsAll old new es number =
    (e : ℕ) → e < length old →
    slice_index new e ≡ (if nat_lt 0 (count_of e es) then number else slice_index old e)

-- ---- events of units

-- the labels of all events, and for each unit the number of its first event, with the number of all events after them
pub record AreSpans (xs : List (Option Access)) (s : Spans) : Type 0 where
  pub events : map label_of s.labels.items ≡ labels xs
  pub units : length s.begins.items ≡ length xs + 1
  pub at : (k : ℕ) → k ≤ length xs → slice_index s.begins.items k ≡ length (labels (take k xs))

-- the numbers of the events from one on and before another
abbrev pub between : ℕ → ℕ → List ℕ
between first last = numbers_from first (last - first)

-- ---- the sweep

-- an event after this number stands too early for one of these
abbrev pub is_turned : List Bool → List Label → (ℕ → ℕ) → ℕ → ℕ → Bool
is_turned flags ls line first last =
    list_any (λ x. list_any (is_early flags ls line x) (between last (length ls)))
    (between first last)

-- rows of the events from the second number on become those of the events from the first on
abbrev pub PutsBefore : List Label → (ℕ → ℕ) → ℕ → ℕ → Table → Table → Type 0
PutsBefore ls line first last old new =
    (end : ℕ) → last ≤ end → end ≤ length ls →
    AreRows ls line (between last end) old → AreRows ls line (between first end) new

-- the first events of units stand in order, and after the last unit stands the number of all events
pub record AreRising (begins : List ℕ) (n : ℕ) : Type 0 where
  pub some : 0 < length begins
  pub rises : (k : ℕ) → k + 1 < length begins → slice_index begins k ≤ slice_index begins (k + 1)
  pub inside : (k : ℕ) → k < length begins → slice_index begins k ≤ n
  pub last : slice_index begins (length begins - 1) ≡ n

-- events are of so many pointers
abbrev pub ArePointers : ℕ → List Label → Type 0
ArePointers n ls = (y : ℕ) → y < length ls → (label_at ls y).address.pointer < n

-- of a later unit some event stands too early for one of the unit in this place
abbrev pub is_turned_unit : List Bool → List Label → List ℕ → List ℕ → ℕ → Bool
is_turned_unit flags ls lines begins k =
    is_turned flags ls (slice_index lines) (slice_index begins k) (slice_index begins (k + 1))

-- an event of a later unit stands too early for one of this unit
abbrev pub has_early : List Bool → List Label → List ℕ → List ℕ → ℕ → ℕ → Bool
has_early flags ls lines begins unit later =
    list_any
    (λ x. list_any (is_early flags ls (slice_index lines) x)
    (between (slice_index begins later) (slice_index begins (later + 1))))
    (between (slice_index begins unit) (slice_index begins (unit + 1)))

-- the first of so many units that is turned, with the first later one of which an event stands too early for it
abbrev pub least_turned : ℕ → ℕ → (ℕ → Bool) → (ℕ → ℕ → Bool) → Option Difference
least_turned arguments units turned early =
    find turned (between 0 units) >>= λ i.
    option_map (λ j. order (arguments + i) (arguments + j)) (find (early i) (between (i + 1) units))
