-- The bytes of accesses, one more at a time.
use Rattle.std.proofs.Common.{◌≡◌, ℕ, ◌+◌, ◌-◌, ◌<◌, Bool, true, false, List, [], ◌∷◌, ◌++◌, map, take, get_or, length, append_assoc, refl, sym, ap, ◌∙◌, arith}
use Rattle.std.specs.Prelude.{◌&&◌, max}
use Rattle.std.specs.List.{list_all}
use Rattle.std.proofs.lemmas.List.{map-append}
use Rattle.vg_base.specs.declared.address.Address.{Address}
use Rattle.vg_program.specs.declared.line.Line.{Line}
use Rattle.vg_shapes.specs.declared.ssa_unit.SsaUnit.{SsaUnit}
use Rattle.vg_shapes.specs.Order.{numbers_from}
use Rattle.vg_events.specs.Events.{Label, labels_from}
use Rattle.vg_events.proofs.Steps.{numbers_from-append}
use Rattle.vg_paired.specs.declared.byte_label.ByteLabel.{ByteLabel}
use Rattle.vg_paired.specs.ByteLabels.{label_of}
use Rattle.vg_paired.proofs.Noting.{of_label}
use Rattle.vg_paired.proofs.Counts.{byte_at, from-push, mapped-more}
use Rattle.vg_levelled.specs.Levelled.{byte_load, has_offset, is_met, most_lacking}

pub met-push : (flags : List Bool) (us : List SsaUnit) (n : ℕ) → map (is_met flags us) (numbers_from 0 (n + 1)) ≡ map
    (is_met flags us) (numbers_from 0 n) ++ is_met flags us n ∷ []
met-push flags us n =
    let e : 0 + n ≡ n = omega arith in
    ap (map (is_met flags us)) (numbers_from-append 0 n 1)
    ∙ map-append (is_met flags us) (numbers_from 0 n) (numbers_from (0 + n) 1)
    ∙ ap (λ m. map (is_met flags us) (numbers_from 0 n) ++ is_met flags us m ∷ []) e

most-push : (k p : Label → ℕ) (ls : List Label) (l : Label) → most_lacking k p (ls ++ l ∷ []) ≡ max (p l - k l)
    (most_lacking k p ls)
most-push k p [] l = refl
most-push k p (x ∷ ls) l = ap (max (p x - k x)) (most-push k p ls l)
    ∙ turned (p x - k x) (p l - k l) (most_lacking k p ls)
  where
    turned : (a b c : ℕ) → max a (max b c) ≡ max b (max a c)
    turned a b c = omega arith

pub most-turn : (k p : Label → ℕ) (w : Bool) (a : Address) (n : ℕ) → most_lacking k p (labels_from w a (n + 1)) ≡ max
    (p (byte_at w a n) - k (byte_at w a n)) (most_lacking k p (labels_from w a n))
most-turn k p w a n = ap (most_lacking k p) (from-push w a n) ∙ most-push k p (labels_from w a n) (byte_at w a n)

pub all-push : (P : Label → Bool) (ls : List Label) (l : Label) → list_all P (ls ++ l ∷ []) ≡ (list_all P ls && P l)
all-push P [] l = one (P l)
  where
    one : (b : Bool) → (b && true) ≡ (true && b)
    one true = refl
    one false = refl
all-push P (x ∷ ls) l = ap (λ b. P x && b) (all-push P ls l) ∙ moved (P x) (list_all P ls) (P l)
  where
    moved : (a b c : Bool) → (a && (b && c)) ≡ ((a && b) && c)
    moved true b c = refl
    moved false b c = refl

pub all-turn : (P : Label → Bool) (w : Bool) (a : Address) (n : ℕ) → list_all P (labels_from w a (n + 1)) ≡
    (list_all P (labels_from w a n) && P (byte_at w a n))
all-turn P w a n = ap (list_all P) (from-push w a n) ∙ all-push P (labels_from w a n) (byte_at w a n)

-- of the code's label of a byte
pub labelled : {X : Type 0} (f : Label → X) (w : Bool) (a : Address) (n : ℕ) (m : ByteLabel)
    → m ≡ of_label (byte_at w a n) → f (label_of m) ≡ f (byte_at w a n)
labelled f w a n m e = ap (λ (x : ByteLabel). f (label_of x)) e

-- ---- bytes one after the other

pub offsets-turn : (ls : List ByteLabel) (i : ℕ) (d : ByteLabel) (all now : Bool) → i < length ls
    → all ≡ list_all has_offset (map label_of (take i ls))
    → now ≡ (all && has_offset (label_of (get_or ls i d))) → now ≡ list_all has_offset (map label_of (take (i + 1) ls))
offsets-turn ls i d all now inside before is =
    is ∙ ap (λ b. b && has_offset (label_of (get_or ls i d))) before
    ∙ sym (all-push has_offset (map label_of (take i ls)) (label_of (get_or ls i d)))
    ∙ ap (list_all has_offset) (sym (mapped-more label_of ls i d inside))

pub loads-turn : (ls : List ByteLabel) (i : ℕ) (d : ByteLabel) (old lines new : List Line) (l : Line) → i < length ls
    → lines ≡ old ++ map byte_load (map label_of (take i ls))
    → l ≡ byte_load (label_of (get_or ls i d)) → new ≡ lines ++ l ∷ []
    → new ≡ old ++ map byte_load (map label_of (take (i + 1) ls))
loads-turn ls i d old lines new l inside before is grown =
    grown ∙ (λ j. before j ++ is j ∷ []) ∙ append_assoc old (map byte_load (map label_of (take i ls)))
    (byte_load (label_of (get_or ls i d)) ∷ [])
    ∙ ap (λ x. old ++ x) (sym (map-append byte_load (map label_of (take i ls)) (label_of (get_or ls i d) ∷ []))
    ∙ ap (map byte_load) (sym (mapped-more label_of ls i d inside)))
