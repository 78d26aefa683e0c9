-- Counted events, one more at a time.
use Rattle.std.proofs.Common.{◌≡◌, ℕ, ◌+◌, ◌<◌, Bool, List, [], ◌∷◌, ◌++◌, length, take, get_or, Option, sym, subst, append_assoc, append-nil}
use Rattle.vg_base.specs.declared.address.Address.{Address}
use Rattle.vg_shapes.specs.declared.access.Access.{Access}
use Rattle.vg_paired.specs.declared.byte_label.ByteLabel.{ByteLabel}
use Rattle.vg_paired.specs.declared.label_numbers.LabelNumbers.{LabelNumbers}
use Rattle.vg_paired.specs.declared.tally.Tally.{Tally}
use Rattle.vg_paired.specs.ByteLabels.{label_of}
use Rattle.vg_paired.specs.Noted.{Notes}
use Rattle.vg_paired.specs.Tallies.{Adds, Counts, count_in}
use Rattle.vg_events.specs.Events.{Label, labels, labels_from, labels_in}
use Rattle.vg_paired.proofs.Balancing.{tally-more}
use Rattle.vg_paired.proofs.Counts.{byte_at, from-push, labels-more}
use Rattle.vg_paired.proofs.Noting.{of_label}

pub adds-none : (t : Tally) → Adds t t []
adds-none t done h = subst (λ d. Counts d t) (sym (append-nil done)) h

pub adds-more : (a b c : Tally) (xs ys : List Label) → Adds a b xs → Adds b c ys → Adds a c (xs ++ ys)
adds-more a b c xs ys f g done h = subst (λ d. Counts d c) (append_assoc done xs ys) (g (done ++ xs) (f done h))

pub adds-one : (old new : LabelNumbers) (m : Label) (k : ℕ) → k ≡ count_in (record { numbers = old }) m + 1
    → Notes old new m k →
    Adds (record { numbers = old }) (record { numbers = new }) (m ∷ [])
adds-one old new m k is notes done h = tally-more old new done m h (subst (λ n. Notes old new m n) is notes)

pub adds-bytes : (a b c : Tally) (w : Bool) (address : Address) (i : ℕ) (m : ByteLabel)
    → Adds a b (labels_from w address i) → m ≡ of_label (byte_at w address i) →
    Adds b c (label_of m ∷ []) → Adds a c (labels_from w address (i + 1))
adds-bytes a b c w address i m before is more =
    subst (Adds a c) (sym (from-push w address i))
    (adds-more a b c (labels_from w address i) (byte_at w address i ∷ []) before
    (subst (λ (x : ByteLabel). Adds b c (label_of x ∷ [])) is more))

pub adds-accesses : (a b c : Tally) (xs : List (Option Access)) (i : ℕ) (d : Option Access) → i < length xs
    → Adds a b (labels (take i xs)) →
    Adds b c (labels_in (get_or xs i d)) → Adds a c (labels (take (i + 1) xs))
adds-accesses a b c xs i d inside before more =
    subst (Adds a c) (sym (labels-more xs i d inside))
    (adds-more a b c (labels (take i xs)) (labels_in (get_or xs i d)) before more)
