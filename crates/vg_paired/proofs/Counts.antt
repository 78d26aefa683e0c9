-- Labels of accesses one after the other, and how often a label stands there.
use Rattle.std.proofs.Common.{◌≡◌, ℕ, zero, suc, ◌+◌, ◌<◌, ◌≤◌, pos, Bool, true, false, List, [], ◌∷◌, ◌++◌, length, map, take, get_or, Option, refl, sym, ap, ◌∙◌, inl, inr, arith, append_assoc, append-nil}
use Rattle.std.specs.Prelude.{◌+ℤ◌}
use Rattle.std.proofs.lemmas.Int.{ints}
use Rattle.std.proofs.lemmas.List.{map-append, take_more}
use Rattle.std.proofs.lemmas.Bool.{cases_Bool}
use Rattle.vg_base.specs.declared.address.Address.{Address}
use Rattle.vg_shapes.specs.declared.access.Access.{Access}
use Rattle.vg_shapes.specs.Order.{one_if}
use Rattle.vg_paired.specs.declared.byte_label.ByteLabel.{ByteLabel}
use Rattle.vg_paired.specs.ByteLabels.{label_of}
use Rattle.vg_events.specs.Events.{Label, labels, labels_from, labels_in, next}
use Rattle.vg_events.specs.Ranks.{count_label, same_label}

pub count-append : (l : Label) (xs ys : List Label) → count_label l (xs ++ ys) ≡ count_label l xs + count_label l ys
count-append l [] ys = omega arith
count-append l (x ∷ xs) ys = omega (arith, count-append l xs ys)

pub count-push : (l m : Label) (done : List Label) → count_label l (done ++ m ∷ []) ≡ count_label l done + one_if (same_label l m)
count-push l m done = omega (arith, count-append l done (m ∷ []))

pub count-same : (l m : Label) (done : List Label) → same_label l m ≡ true → count_label l (done ++ m ∷ []) ≡ count_label l done + 1
count-same l m done t = count-push l m done ∙ ap (λ b. count_label l done + one_if b) t

pub count-other : (l m : Label) (done : List Label) → same_label l m ≡ false → count_label l (done ++ m ∷ []) ≡ count_label l done
count-other l m done f = count-push l m done ∙ ap (λ b. count_label l done + one_if b) f ∙ omega arith

pub count-long : (l : Label) (xs : List Label) → count_label l xs ≤ length xs
count-long l [] = omega arith
count-long l (x ∷ xs) = elim (cases_Bool (same_label l x)) [
  | inl t ↦ let one : one_if (same_label l x) ≡ 1 = ap one_if t in omega (arith, count-long l xs)
  | inr f ↦ let none : one_if (same_label l x) ≡ 0 = ap one_if f in omega (arith, count-long l xs)
]

-- so many bytes after an address
abbrev pub byte_at : Bool → Address → ℕ → Label
byte_at w a i = record { writes = w; address = record { pointer = a.pointer; offset = a.offset +ℤ pos i } }

-- one byte more
pub from-push : (w : Bool) (a : Address) (n : ℕ) → labels_from w a (n + 1) ≡ labels_from w a n ++ byte_at w a n ∷ []
from-push w a n = (let e : n + 1 ≡ suc n = omega arith in ap (labels_from w a) e) ∙ push w a n
  where
    push : (w : Bool) (a : Address) (n : ℕ) → labels_from w a (suc n) ≡ labels_from w a n ++ byte_at w a n ∷ []
    push w a zero = (let e : a.offset ≡ a.offset +ℤ pos 0 = omega (arith, ints) in (λ i. record { writes = w; address = record { pointer = a.pointer; offset = e i } } ∷ []))
    push w a (suc n) =
        ap (λ ls. record { writes = w; address = a } ∷ ls)
        (push w (next a) n
        ∙ (let e : ((a.offset +ℤ pos 1) +ℤ pos n) ≡ (a.offset +ℤ pos (suc n)) = omega (arith, ints) in
        (λ i. labels_from w (next a) n ++ record { writes = w; address = record { pointer = a.pointer; offset = e i } } ∷ [])))

-- one access more
pub labels-append : (xs ys : List (Option Access)) → labels (xs ++ ys) ≡ labels xs ++ labels ys
labels-append [] ys = refl
labels-append (x ∷ xs) ys = ap (λ ls. labels_in x ++ ls) (labels-append xs ys) ∙ sym (append_assoc (labels_in x) (labels xs) (labels ys))

pub labels-push : (xs : List (Option Access)) (x : Option Access) → labels (xs ++ x ∷ []) ≡ labels xs ++ labels_in x
labels-push xs x = labels-append xs (x ∷ []) ∙ ap (λ ls. labels xs ++ ls) (append-nil (labels_in x))

-- a list mapped up to a place, and one item more
pub mapped-more : {X Y : Type 0} (f : X → Y) (xs : List X) (i : ℕ) (d : X) → i < length xs → map f (take (i + 1) xs) ≡ map f (take i xs) ++ f (get_or xs i d) ∷ []
mapped-more f xs i d h = ap (map f) (take_more xs i d h) ∙ map-append f (take i xs) (get_or xs i d ∷ [])

-- the labels of accesses up to a place, and one access more
pub labels-more : (xs : List (Option Access)) (i : ℕ) (d : Option Access) → i < length xs → labels (take (i + 1) xs) ≡ labels (take i xs) ++ labels_in (get_or xs i d)
labels-more xs i d h = ap labels (take_more xs i d h) ∙ labels-push (take i xs) (get_or xs i d)

-- the code's labels of the bytes of an access, and one byte more
pub labels-turn : (old all new : List ByteLabel) (w : Bool) (a : Address) (i : ℕ) (m : ByteLabel) →
    map label_of all ≡ map label_of old ++ labels_from w a i → label_of m ≡ byte_at w a i → new ≡ all ++ m ∷ [] →
    map label_of new ≡ map label_of old ++ labels_from w a (i + 1)
labels-turn old all new w a i m before is grown =
    ap (map label_of) grown ∙ map-append label_of all (m ∷ [])
    ∙ (λ j. before j ++ is j ∷ []) ∙ append_assoc (map label_of old) (labels_from w a i) (byte_at w a i ∷ [])
    ∙ ap (λ ls. map label_of old ++ ls) (sym (from-push w a i))

-- the labels of one access more
pub labels-grow : (all new : List Label) (xs : List (Option Access)) (i : ℕ) (d : Option Access) → i < length xs → all ≡ labels (take i xs) →
    new ≡ all ++ labels_in (get_or xs i d) → new ≡ labels (take (i + 1) xs)
labels-grow all new xs i d inside before grown = grown ∙ ap (λ ls. ls ++ labels_in (get_or xs i d)) before ∙ sym (labels-more xs i d inside)

-- a mapped list with one item more
pub map-grow : {X Y : Type 0} (f : X → Y) (all new : List Y) (xs : List X) (i : ℕ) (d : X) (y : Y) → i < length xs → all ≡ map f (take i xs) →
    y ≡ f (get_or xs i d) → new ≡ all ++ y ∷ [] → new ≡ map f (take (i + 1) xs)
map-grow f all new xs i d y inside before is grown = grown ∙ (λ j. before j ++ is j ∷ []) ∙ sym (mapped-more f xs i d inside)
