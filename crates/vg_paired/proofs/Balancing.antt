-- What is left of the events of a kernel after those of lines.
use Rattle.std.proofs.Common.{◌≡◌, ℕ, ◌+◌, ◌-◌, ◌<◌, ◌≤◌, Bool, true, false, List, [], ◌∷◌, ◌++◌, length, map, take, get_or, Option, Some, refl, sym, ap, subst, ◌∙◌, inl, inr, arith, append_assoc, append-nil, length-take}
use Rattle.std.specs.Prelude.{◌&&◌, ◌||◌, if◌then◌else◌, nat_lt, unwrap_or}
use Rattle.std.specs.List.{list_any}
use Rattle.std.specs.Option.{option_map}
use Rattle.std.proofs.lemmas.Bool.{cases_Bool, cond-true, cond-false, lt-ltb, le-ltb, ltb-true}
use Rattle.std.proofs.lemmas.List.{length-map}
use Rattle.std.proofs.lemmas.List.Folds.{list_any-append}
use Rattle.vg_paired.specs.declared.byte_label.ByteLabel.{ByteLabel}
use Rattle.vg_paired.specs.declared.balance.Balance.{Balance}
use Rattle.vg_paired.specs.declared.label_numbers.LabelNumbers.{LabelNumbers}
use Rattle.vg_paired.specs.Balances.{IsBalance, IsLeast, is_left, is_over, number_of, Takes, WithLeft}
use Rattle.vg_paired.specs.ByteLabels.{label_of}
use Rattle.vg_base.specs.declared.address.Address.{Address}
use Rattle.vg_shapes.specs.declared.access.Access.{Access}
use Rattle.vg_events.specs.Events.{Label, labels, labels_from, labels_in}
use Rattle.vg_known.specs.Labels.{lesser}
use Rattle.vg_paired.specs.Noted.{Notes}
use Rattle.vg_events.specs.Ranks.{count_label, same_label}
use Rattle.vg_events.proofs.Ranks.{same-labels}
use Rattle.vg_paired.proofs.Counts.{byte_at, count-long, count-other, count-same, from-push, labels-more, mapped-more}
use Rattle.vg_paired.proofs.Noting.{of_label}
use Rattle.vg_paired.proofs.Leasts.{least-more, least-same}

-- the number of a label after a note
pub number-here : (old new : LabelNumbers) (m : Label) (k : ℕ) → Notes old new m k → (l : Label) → same_label l m ≡ true → number_of new l ≡ k
number-here old new m k notes l t = ap (λ o. unwrap_or o 0) (notes l ∙ cond-true _ _ _ t)

pub number-other : (old new : LabelNumbers) (m : Label) (k : ℕ) → Notes old new m k → (l : Label) → same_label l m ≡ false → number_of new l ≡ number_of old l
number-other old new m k notes l f = ap (λ o. unwrap_or o 0) (notes l ∙ cond-false _ _ _ f)

-- one more of a label
pub tally-more : (old new : LabelNumbers) (done : List Label) (m : Label) → ((l : Label) → number_of old l ≡ count_label l done) →
    Notes old new m (number_of old m + 1) → (l : Label) → number_of new l ≡ count_label l (done ++ m ∷ [])
tally-more old new done m are notes l = elim (cases_Bool (same_label l m)) [
  | inl t ↦
      let same = same-labels l m t in
      number-here old new m (number_of old m + 1) notes l t
      ∙ ap (λ k. k + 1) (are m ∙ ap (λ x. count_label x done) (sym same)) ∙ sym (count-same l m done t)
  | inr f ↦ number-other old new m (number_of old m + 1) notes l f ∙ are l ∙ sym (count-other l m done f)
]

-- an event of which there are some left
left-less : (old new : LabelNumbers) (ls done : List Label) (m : Label) → ((l : Label) → number_of old l ≡ count_label l ls - count_label l done) →
    Notes old new m (number_of old m - 1) → (l : Label) → number_of new l ≡ count_label l ls - count_label l (done ++ m ∷ [])
left-less old new ls done m are notes l = elim (cases_Bool (same_label l m)) [
  | inl t ↦
      let here = number-here old new m (number_of old m - 1) notes l t in
      let left = are m in
      let more = count-same l m done t in
      let same = same-labels l m t in
      let a : count_label l ls ≡ count_label m ls = ap (λ x. count_label x ls) same in
      let b : count_label l done ≡ count_label m done = ap (λ x. count_label x done) same in
      omega arith
  | inr f ↦ number-other old new m (number_of old m - 1) notes l f ∙ are l ∙ ap (λ k. count_label l ls - k) (sym (count-other l m done f))
]

over-same : (ls done : List Label) (m : Label) → count_label m done < count_label m ls → (l : Label) → is_over ls (done ++ m ∷ []) l ≡ is_over ls done l
over-same ls done m some l = elim (cases_Bool (same_label l m)) [
  | inl t ↦
      let more = count-same l m done t in
      let same = same-labels l m t in
      let a : count_label l ls ≡ count_label m ls = ap (λ x. count_label x ls) same in
      let b : count_label l done ≡ count_label m done = ap (λ x. count_label x done) same in
      le-ltb _ _ (omega arith) ∙ sym (le-ltb _ _ (omega arith))
  | inr f ↦ ap (λ k. nat_lt (count_label l ls) k) (count-other l m done f)
]

over-more : (ls done : List Label) (m : Label) → count_label m ls ≤ count_label m done → (l : Label) → is_over ls (done ++ m ∷ []) l ≡ (is_over ls done l || same_label l m)
over-more ls done m none l = elim (cases_Bool (same_label l m)) [
  | inl t ↦
      let more = count-same l m done t in
      let same = same-labels l m t in
      let a : count_label l ls ≡ count_label m ls = ap (λ x. count_label x ls) same in
      let b : count_label l done ≡ count_label m done = ap (λ x. count_label x done) same in
      lt-ltb _ _ (omega arith) ∙ sym (ap (λ k. is_over ls done l || k) t ∙ or-true (is_over ls done l))
  | inr f ↦ ap (λ k. nat_lt (count_label l ls) k) (count-other l m done f) ∙ sym (ap (λ k. is_over ls done l || k) f ∙ or-false (is_over ls done l))
]
  where
    or-true : (b : Bool) → (b || true) ≡ true
    or-true true = refl
    or-true false = refl

    or-false : (b : Bool) → (b || false) ≡ b
    or-false true = refl
    or-false false = refl

left-none : (n : LabelNumbers) (ls done : List Label) (m : Label) → ((l : Label) → number_of n l ≡ count_label l ls - count_label l done) →
    number_of n m ≡ 0 → (l : Label) → number_of n l ≡ count_label l ls - count_label l (done ++ m ∷ [])
left-none n ls done m are none l = elim (cases_Bool (same_label l m)) [
  | inl t ↦
      let left = are l in
      let more = count-same l m done t in
      let zero : number_of n l ≡ 0 = ap (number_of n) (same-labels l m t) ∙ none in
      omega arith
  | inr f ↦ are l ∙ ap (λ k. count_label l ls - k) (sym (count-other l m done f))
]

pub takes-some : (old new : LabelNumbers) (o : Option ByteLabel) (m : ByteLabel) (k : ℕ) → k ≡ number_of old (label_of m) → 0 < k → Notes old new (label_of m) (k - 1) →
    Takes (record { left = old; least = o }) (record { left = new; least = o }) (label_of m ∷ [])
takes-some old new o m k is some notes ls done b =
    let left = b.left (label_of m) in
    record {
      left = left-less old new ls done (label_of m) b.left (subst (λ x. Notes old new (label_of m) (x - 1)) is notes);
      least = least-same (is_over ls done) (is_over ls (done ++ label_of m ∷ [])) (option_map label_of o) (over-same ls done (label_of m) (omega arith)) b.least;
    }

pub takes-over : (n : LabelNumbers) (o : Option ByteLabel) (m r : ByteLabel) (k : ℕ) → k ≡ number_of n (label_of m) → k ≤ 0 → label_of r ≡ lesser (label_of m) (option_map label_of o) →
    Takes (record { left = n; least = o }) (record { left = n; least = Some r }) (label_of m ∷ [])
takes-over n o m r k is none lesser_is ls done b =
    let left = b.left (label_of m) in
    record {
      left = left-none n ls done (label_of m) b.left (omega arith);
      least = subst (λ x. IsLeast (is_over ls (done ++ label_of m ∷ [])) (Some x)) (sym lesser_is)
          (least-more (is_over ls done) (is_over ls (done ++ label_of m ∷ [])) (option_map label_of o) (label_of m) (over-more ls done (label_of m) (omega arith)) b.least);
    }

pub takes-none : (b : Balance) → Takes b b []
takes-none b ls done h = subst (λ d. IsBalance ls d b) (sym (append-nil done)) h

pub takes-more : (a b c : Balance) (xs ys : List Label) → Takes a b xs → Takes b c ys → Takes a c (xs ++ ys)
takes-more a b c xs ys f g ls done h = subst (λ d. IsBalance ls d c) (append_assoc done xs ys) (g ls (done ++ xs) (f ls done h))

-- the labels of which some are left
pub left-more : (n : LabelNumbers) (xs : List Label) (first old new : Option Label) (m : ByteLabel) (k : ℕ) → k ≡ number_of n (label_of m) →
    WithLeft n xs first old → new ≡ (if nat_lt 0 k then Some (lesser (label_of m) old) else old) → WithLeft n (xs ++ label_of m ∷ []) first new
left-more n xs first old new m k is before e p h = elim (cases_Bool (nat_lt 0 k)) [
  | inl t ↦ subst (IsLeast (λ l. p l || is_left n (xs ++ label_of m ∷ []) l)) (sym (e ∙ cond-true _ _ _ t)) (least-more _ _ old (label_of m) (λ l. there l (ltb-true 0 k t)) (before p h))
  | inr f ↦ subst (IsLeast (λ l. p l || is_left n (xs ++ label_of m ∷ []) l)) (sym (e ∙ cond-false _ _ _ f)) (least-same _ _ old (λ l. ap (λ b. p l || b) (absent l f)) (before p h))
]
  where
    here : (l : Label) → list_any (same_label l) (xs ++ label_of m ∷ []) ≡ (list_any (same_label l) xs || (same_label l (label_of m) || false))
    here l = list_any-append (same_label l) xs (label_of m ∷ [])

    there : (l : Label) → 0 < k → (p l || is_left n (xs ++ label_of m ∷ []) l) ≡ ((p l || is_left n xs l) || same_label l (label_of m))
    there l some = elim (cases_Bool (same_label l (label_of m))) [
      | inl t ↦
          let same = ap (number_of n) (same-labels l (label_of m) t) in
          (λ i. p l || ((here l ∙ (λ j. list_any (same_label l) xs || (t j || false))) i && lt-ltb 0 (number_of n l) (omega arith) i))
          ∙ all (p l) (list_any (same_label l) xs) (nat_lt 0 (number_of n l)) ∙ (λ i. (p l || is_left n xs l) || sym t i)
      | inr f ↦
          (λ i. p l || ((here l ∙ (λ j. list_any (same_label l) xs || (f j || false))) i && nat_lt 0 (number_of n l)))
          ∙ none (p l) (list_any (same_label l) xs) (nat_lt 0 (number_of n l)) ∙ (λ i. (p l || is_left n xs l) || sym f i)
    ]
      where
        all : (a b c : Bool) → (a || ((b || (true || false)) && true)) ≡ ((a || (b && c)) || true)
        all true true c = refl
        all true false c = refl
        all false true true = refl
        all false true false = refl
        all false false c = refl

        none : (a b c : Bool) → (a || ((b || (false || false)) && c)) ≡ ((a || (b && c)) || false)
        none true true c = refl
        none true false c = refl
        none false true true = refl
        none false true false = refl
        none false false c = refl

    absent : (l : Label) → nat_lt 0 k ≡ false → is_left n (xs ++ label_of m ∷ []) l ≡ is_left n xs l
    absent l f = elim (cases_Bool (same_label l (label_of m))) [
      | inl t ↦
          let same : nat_lt 0 (number_of n l) ≡ false = ap (nat_lt 0) (ap (number_of n) (same-labels l (label_of m) t) ∙ sym is) ∙ f in
          (λ i. list_any (same_label l) (xs ++ label_of m ∷ []) && same i) ∙ zero-both _ (list_any (same_label l) xs) ∙ (λ i. list_any (same_label l) xs && sym same i)
      | inr g ↦ (λ i. (here l ∙ (λ j. list_any (same_label l) xs || (g j || false))) i && nat_lt 0 (number_of n l)) ∙ drop-false (list_any (same_label l) xs) _
    ]
      where
        zero-both : (a b : Bool) → (a && false) ≡ (b && false)
        zero-both true true = refl
        zero-both true false = refl
        zero-both false true = refl
        zero-both false false = refl

        drop-false : (a c : Bool) → ((a || (false || false)) && c) ≡ (a && c)
        drop-false true c = refl
        drop-false false c = refl

-- ---- turns of loops

pub tally-small : (xs : List ByteLabel) (i : ℕ) (n : LabelNumbers) (x : Label) (k : ℕ) → k ≡ number_of n x →
    ((l : Label) → number_of n l ≡ count_label l (map label_of (take i xs))) → i ≤ length xs → k ≤ i
tally-small xs i n x k is are inside =
    let a = are x in
    omega (arith, count-long x (map label_of (take i xs)), length-map (take i xs) label_of, length-take i xs)

pub tally-turn : (xs : List ByteLabel) (i : ℕ) (d : ByteLabel) (old new : LabelNumbers) (k : ℕ) → i < length xs → k ≡ number_of old (label_of (get_or xs i d)) →
    ((l : Label) → number_of old l ≡ count_label l (map label_of (take i xs))) → Notes old new (label_of (get_or xs i d)) (k + 1) →
    (l : Label) → number_of new l ≡ count_label l (map label_of (take (i + 1) xs))
tally-turn xs i d old new k inside is are notes l =
    tally-more old new (map label_of (take i xs)) (label_of (get_or xs i d)) are (subst (λ n. Notes old new (label_of (get_or xs i d)) (n + 1)) is notes) l
    ∙ sym (ap (count_label l) (mapped-more label_of xs i d inside))

pub left-turn : (n : LabelNumbers) (xs : List ByteLabel) (i : ℕ) (d : ByteLabel) (first old new : Option Label) (k : ℕ) → i < length xs → k ≡ number_of n (label_of (get_or xs i d)) →
    WithLeft n (map label_of (take i xs)) first old → new ≡ (if nat_lt 0 k then Some (lesser (label_of (get_or xs i d)) old) else old) → WithLeft n (map label_of (take (i + 1) xs)) first new
left-turn n xs i d first old new k inside is before e =
    subst (λ ls. WithLeft n ls first new) (sym (mapped-more label_of xs i d inside)) (left-more n (map label_of (take i xs)) first old new (get_or xs i d) k is before e)

pub bytes-turn : (a b c : Balance) (w : Bool) (address : Address) (i : ℕ) (m : ByteLabel) → Takes a b (labels_from w address i) → m ≡ of_label (byte_at w address i) →
    Takes b c (label_of m ∷ []) → Takes a c (labels_from w address (i + 1))
bytes-turn a b c w address i m before is more =
    subst (Takes a c) (sym (from-push w address i))
    (takes-more a b c (labels_from w address i) (byte_at w address i ∷ []) before (subst (λ (x : ByteLabel). Takes b c (label_of x ∷ [])) is more))

pub accesses-turn : (a b c : Balance) (xs : List (Option Access)) (i : ℕ) (d : Option Access) → i < length xs → Takes a b (labels (take i xs)) →
    Takes b c (labels_in (get_or xs i d)) → Takes a c (labels (take (i + 1) xs))
accesses-turn a b c xs i d inside before more =
    subst (Takes a c) (sym (labels-more xs i d inside)) (takes-more a b c (labels (take i xs)) (labels_in (get_or xs i d)) before more)
