-- Events of both sides paired by rank: the k-th event of a label on one side is the k-th of that label on
-- the other.
use Rattle.std.specs.Prelude.{◌≡◌, ℕ, zero, suc, ◌+◌, ◌==◌, Bool, true, false, ◌&&◌, List, [], ◌∷◌, ◌++◌, Option, if◌then◌else◌}
use Rattle.std.specs.Ordering.{int_eq}
use Rattle.vg_shapes.specs.declared.access.Access.{Access}
use Rattle.vg_shapes.specs.Order.{one_if}
use Rattle.vg_events.specs.Events.{Label, labels_in}

abbrev pub same_bool : Bool → Bool → Bool
same_bool true b = b
same_bool false true = false
same_bool false false = true

abbrev pub same_label : Label → Label → Bool
same_label a b =
    same_bool a.writes b.writes
    && ((a.address.pointer == b.address.pointer) && int_eq a.address.offset b.address.offset)

-- how many events have a label
abbrev pub count_label : Label → List Label → ℕ
count_label l [] = 0
count_label l (x ∷ xs) = one_if (same_label l x) + count_label l xs

-- each label has as many events on both sides
abbrev pub SameCounts : List Label → List Label → Type 0
SameCounts ls ms = (l : Label) → count_label l ls ≡ count_label l ms

-- the number of the event of a label that has so many of that label before it
abbrev pub event_at : Label → ℕ → List Label → ℕ
event_at l k [] = 0
event_at l zero (x ∷ xs) = if same_label l x then 0 else suc (event_at l zero xs)
event_at l (suc k) (x ∷ xs) =
    if same_label l x then suc (event_at l k xs) else suc (event_at l (suc k) xs)

-- the numbers of the events with these labels, after those that are done
abbrev pub paired : List Label → List Label → List Label → List ℕ
paired ls done [] = []
paired ls done (m ∷ ms) = event_at m (count_label m done) ls ∷ paired ls (done ++ m ∷ []) ms

-- the same, a list for each unit or line
abbrev pub pairing : List Label → List Label → List (Option Access) → List (List ℕ)
pairing ls done [] = []
pairing ls done (x ∷ xs) =
    paired ls done (labels_in x) ∷ pairing ls (done ++ labels_in x) xs

abbrev pub by_rank : List Label → List (Option Access) → List (List ℕ)
by_rank ls xs = pairing ls [] xs
