-- What stands where in a table of matches.
use Rattle.std.proofs.Common.{◌≡◌, ℕ, zero, suc, ◌-◌, ◌<◌, ◌≤◌, Bool, true, false, List, [], ◌∷◌, Option, Some, None, length, take, drop, get_or, cond, refl, sym, ap, subst, ◌∙◌, inl, inr, arith}
use Rattle.std.specs.Prelude.{◌&&◌, nat_eq, nat_le, filter, slice_get}
use Rattle.std.specs.List.{AllByRecursion, AllWithin}
use Rattle.std.specs.List.Sorted.{IsPartitionedBy}
use Rattle.std.proofs.lemmas.Bool.{cases_Bool, cond-true, cond-false, both_ways}
use Rattle.std.proofs.lemmas.Bool.Decides.{nat_tests}
use Rattle.std.proofs.lemmas.List.{take_all, length-drop}
use Rattle.vg_shapes.specs.declared.match_table.Match.{Match}
use Rattle.vg_shapes.specs.MatchTable.{stands_before, IsTable}
use Rattle.vg_shapes.specs.Pack.{match_at}

-- ---- the order

abbrev pub is_of : ℕ → ℕ → ℕ → Match → Bool
is_of d lane v m = nat_eq m.description d && (nat_eq m.lane lane && nat_eq m.value v)

pub before-both : (d lane v : ℕ) (m n : Match) → stands_before n.description n.lane n.value m ≡ true → stands_before d lane v n ≡ true → stands_before d lane v m ≡ true
before-both d lane v m n h g = grind (arith, nat_tests, h, g)

before-differs : (d lane v : ℕ) (m : Match) → stands_before d lane v m ≡ true → is_of d lane v m ≡ false
before-differs d lane v m h = grind (arith, nat_tests, h)

before-same : (d lane v : ℕ) (m n : Match) → stands_before n.description n.lane n.value m ≡ true → is_of d lane v n ≡ true → stands_before d lane v m ≡ true
before-same d lane v m n h g = grind (arith, nat_tests, h, g)

pub before-value : (m n : Match) → stands_before n.description n.lane n.value m ≡ true → m.value ≤ n.value
before-value m n h = grind (arith, nat_tests, h)

-- ---- a test that holds of all matches before one of which it holds splits a table

-- it holds of a match at a place
at-place : (P : Match → Type 0) (ms : List Match) (j : ℕ) (d : Match) → AllByRecursion P ms → j < length ms → P (get_or ms j d)
at-place P [] j d h l = absurd (omega arith)
at-place P (m ∷ ms) zero d h l = h.0
at-place P (m ∷ ms) (suc j) d h l = at-place P ms j d h.1 (omega arith)

pub splits : (p : Match → Bool) → ((m n : Match) → stands_before n.description n.lane n.value m ≡ true → p n ≡ true → p m ≡ true) → (ms : List Match) → IsTable ms → IsPartitionedBy p ms
splits p falls [] o i j d below l h = absurd (omega arith)
splits p falls (m ∷ ms) o zero zero d below l h = h
splits p falls (m ∷ ms) o zero (suc j) d below l h =
    falls m (get_or ms j d) (at-place (λ n. stands_before n.description n.lane n.value m ≡ true) ms j d o.0 (omega arith)) h
splits p falls (m ∷ ms) o (suc i) zero d below l h = absurd (omega arith)
splits p falls (m ∷ ms) o (suc i) (suc j) d below l h = splits p falls ms o.1 i j d (omega arith) (omega arith) h

-- ---- the front and the end of a list

module _ {X : Type 0} (p : X → Bool) where
  none-left : (xs : List X) → AllWithin (λ x. p x ≡ false) xs 0 (length xs) → [] ≡ filter p xs
  none-left [] h = refl
  none-left (x ∷ xs) h =
      none-left xs (λ k d l b. h (suc k) d (omega arith) (omega arith))
      ∙ sym (cond-false (p x) (x ∷ filter p xs) (filter p xs) (h 0 x (omega arith) (omega arith)))

  all-left : (xs : List X) → AllWithin (λ x. p x ≡ true) xs 0 (length xs) → xs ≡ filter p xs
  all-left [] h = refl
  all-left (x ∷ xs) h =
      ap (λ l. x ∷ l) (all-left xs (λ k d l b. h (suc k) d (omega arith) (omega arith)))
      ∙ sym (cond-true (p x) (x ∷ filter p xs) (filter p xs) (h 0 x (omega arith) (omega arith)))

  pub front-kept : (xs : List X) (k : ℕ) → AllWithin (λ x. p x ≡ true) xs 0 k → AllWithin (λ x. p x ≡ false) xs k (length xs) → k ≤ length xs → take k xs ≡ filter p xs
  front-kept xs zero h g l = none-left xs g
  front-kept [] (suc k) h g l = absurd (omega arith)
  front-kept (x ∷ xs) (suc k) h g l =
      ap (λ l. x ∷ l) (front-kept xs k (λ j d u b. h (suc j) d (omega arith) (omega arith)) (λ j d u b. g (suc j) d (omega arith) (omega arith)) (omega arith))
      ∙ sym (cond-true (p x) (x ∷ filter p xs) (filter p xs) (h 0 x (omega arith) (omega arith)))

  end-kept : (xs : List X) (k : ℕ) → AllWithin (λ x. p x ≡ false) xs 0 k → AllWithin (λ x. p x ≡ true) xs k (length xs) → k ≤ length xs → drop k xs ≡ filter p xs
  end-kept xs zero h g l = all-left xs g
  end-kept [] (suc k) h g l = absurd (omega arith)
  end-kept (x ∷ xs) (suc k) h g l =
      end-kept xs k (λ j d u b. h (suc j) d (omega arith) (omega arith)) (λ j d u b. g (suc j) d (omega arith) (omega arith)) (omega arith)
      ∙ sym (cond-false (p x) (x ∷ filter p xs) (filter p xs) (h 0 x (omega arith) (omega arith)))

  pub behind-kept : (xs : List X) (k : ℕ) → AllWithin (λ x. p x ≡ false) xs 0 k → AllWithin (λ x. p x ≡ true) xs k (length xs) → k ≤ length xs → take (length xs - k) (drop k xs) ≡ filter p xs
  behind-kept xs k h g l = take_all (length xs - k) (drop k xs) (omega (arith, length-drop k xs)) ∙ end-kept xs k h g l

-- ---- the matches of a value

filter-stays : (P : Match → Type 0) (p : Match → Bool) (ms : List Match) → AllByRecursion P ms → AllByRecursion P (filter p ms)
filter-stays P p [] h = tt
filter-stays P p (m ∷ ms) h = elim (cases_Bool (p m)) [
  | inl t ↦ subst (AllByRecursion P) (sym (cond-true (p m) (m ∷ filter p ms) (filter p ms) t)) (h.0, filter-stays P p ms h.1)
  | inr f ↦ subst (AllByRecursion P) (sym (cond-false (p m) (m ∷ filter p ms) (filter p ms) f)) (filter-stays P p ms h.1)
]

pub table-filter : (p : Match → Bool) (ms : List Match) → IsTable ms → IsTable (filter p ms)
table-filter p [] o = tt
table-filter p (m ∷ ms) o = elim (cases_Bool (p m)) [
  | inl t ↦ subst IsTable (sym (cond-true (p m) (m ∷ filter p ms) (filter p ms) t)) (filter-stays _ p ms o.0, table-filter p ms o.1)
  | inr f ↦ subst IsTable (sym (cond-false (p m) (m ∷ filter p ms) (filter p ms) f)) (table-filter p ms o.1)
]

pub filter-twice : {X : Type 0} (p q r : X → Bool) → ((x : X) → r x ≡ (q x && p x)) → (xs : List X) → filter p (filter q xs) ≡ filter r xs
filter-twice p q r h [] = refl
filter-twice p q r h (x ∷ xs) = elim (cases_Bool (q x)) [
  | inl t ↦
      let same : r x ≡ p x = h x ∙ ap (λ b. b && p x) t in
      ap (filter p) (cond-true (q x) (x ∷ filter q xs) (filter q xs) t)
      ∙ (λ i. cond (sym same i) (x ∷ filter-twice p q r h xs i) (filter-twice p q r h xs i))
  | inr f ↦
      let none : r x ≡ false = h x ∙ ap (λ b. b && p x) f in
      ap (filter p) (cond-false (q x) (x ∷ filter q xs) (filter q xs) f)
      ∙ filter-twice p q r h xs
      ∙ sym (cond-false (r x) (x ∷ filter r xs) (filter r xs) none)
]

pub value-between : (v : ℕ) (m : Match) → nat_eq m.value v ≡ (nat_le v m.value && nat_le m.value v)
value-between v m = grind (arith, nat_tests)

-- ---- the match of a lane and a value

abbrev pub if_of : (Match → Bool) → Option Match → Option Match
if_of p None = None
if_of p (Some m) = cond (p m) (Some m) None

module _ (d lane v : ℕ) where
  none-behind : (m : Match) (ms : List Match) → stands_before d lane v m ≡ false → AllByRecursion (λ n. stands_before n.description n.lane n.value m ≡ true) ms → match_at ms d lane v ≡ None
  none-behind m [] f h = refl
  none-behind m (n ∷ ns) f h = elim (cases_Bool (is_of d lane v n)) [
    | inl t ↦ absurd (both_ways (stands_before d lane v m) f (before-same d lane v m n h.0 t))
    | inr g ↦ cond-false (is_of d lane v n) (Some n) (match_at ns d lane v) g ∙ none-behind m ns f h.1
  ]

  pub found-at : (ms : List Match) (k : ℕ) → IsTable ms → AllWithin (λ m. stands_before d lane v m ≡ true) ms 0 k → AllWithin (λ m. stands_before d lane v m ≡ false) ms k (length ms) → if_of (is_of d lane v) (slice_get ms k) ≡ match_at ms d lane v
  found-at [] k o h g = refl
  found-at (m ∷ ms) zero o h g = elim (cases_Bool (is_of d lane v m)) [
    | inl t ↦ cond-true (is_of d lane v m) (Some m) None t ∙ sym (cond-true (is_of d lane v m) (Some m) (match_at ms d lane v) t)
    | inr f ↦
        cond-false (is_of d lane v m) (Some m) None f
        ∙ sym (none-behind m ms (g 0 m (omega arith) (omega arith)) o.0)
        ∙ sym (cond-false (is_of d lane v m) (Some m) (match_at ms d lane v) f)
  ]
  found-at (m ∷ ms) (suc k) o h g =
      found-at ms k o.1 (λ j e u b. h (suc j) e (omega arith) (omega arith)) (λ j e u b. g (suc j) e (omega arith) (omega arith))
      ∙ sym (cond-false (is_of d lane v m) (Some m) (match_at ms d lane v) (before-differs d lane v m (h 0 m (omega arith) (omega arith))))
