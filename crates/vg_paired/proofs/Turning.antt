-- Units out of order, told by the events of all later units at once.
use Rattle.std.proofs.Common.{◌≡◌, ℕ, zero, suc, ◌+◌, ◌-◌, ◌<◌, ◌≤◌, Bool, true, false, List, [], ◌∷◌, ◌++◌, length, map, take, Option, Some, None, refl, sym, ap, subst, ◌∙◌, inl, inr, arith, length-append}
use Rattle.std.specs.Prelude.{◌||◌, IfSome, if◌then◌else◌, slice_index, slice_index_or}
use Rattle.std.specs.List.{find, list_any}
use Rattle.std.specs.Option.{option_map, option_or}
use Rattle.std.proofs.lemmas.Bool.{cases_Bool, cond-true, cond-false}
use Rattle.std.proofs.lemmas.List.Folds.{list_any-append}
use Rattle.vg_shapes.specs.declared.access.Access.{Access}
use Rattle.vg_shapes.specs.Order.{numbers_from}
use Rattle.vg_events.specs.Events.{Label, labels, labels_in}
use Rattle.vg_events.specs.UnitOrder.{spans}
use Rattle.vg_base.specs.Trap.{◌>>=◌}
use Rattle.vg_known.specs.Difference.{order, unit_pairs}
use Rattle.vg_paired.specs.Rows.{is_early}
use Rattle.vg_paired.specs.Sweeps.{AreRising, between, has_early, is_turned_unit}
use Rattle.vg_paired.proofs.Sweeping.{any-same, between-none}

-- ---- the first of pairs

find-append : {A : Type 0} (p : A → Bool) (xs ys : List A) → find p (xs ++ ys) ≡ option_or (find p xs) (find p ys)
find-append p [] ys = refl
find-append p (x ∷ xs) ys = by (p x) refl (find-append p xs ys)
  where
    by : (b : Bool) → p x ≡ b → find p (xs ++ ys) ≡ option_or (find p xs) (find p ys) → find p ((x ∷ xs) ++ ys) ≡ option_or (find p (x ∷ xs)) (find p ys)
    by true e r = rw e refl
    by false e r = rw e r

-- the first pair of a number: its first is the first that has a later one
abbrev pub first_pair : (ℕ → ℕ → Bool) → List ℕ → Option (ℕ × ℕ)
first_pair p [] = None
first_pair p (v ∷ vs) = if list_any (p v) vs then option_map (λ w. (v, w)) (find (p v) vs) else first_pair p vs

find-paired : (p : ℕ → ℕ → Bool) (v : ℕ) (ws : List ℕ) → find {X = ℕ × ℕ} (λ q. p q.0 q.1) (map (λ w. (v, w)) ws) ≡ option_map (λ w. (v, w)) (find (p v) ws)
find-paired p v [] = refl
find-paired p v (w ∷ ws) = by (p v w) refl (find-paired p v ws)
  where
    by : (b : Bool) → p v w ≡ b → find {X = ℕ × ℕ} (λ q. p q.0 q.1) (map (λ w. (v, w)) ws) ≡ option_map (λ w. (v, w)) (find (p v) ws) → find {X = ℕ × ℕ} (λ q. p q.0 q.1) (map (λ w. (v, w)) (w ∷ ws)) ≡ option_map (λ w. (v, w)) (find (p v) (w ∷ ws))
    by true e r = rw e refl
    by false e r = rw e r

find-none : (p : ℕ → Bool) (ws : List ℕ) → list_any p ws ≡ false → find p ws ≡ None
find-none p [] h = refl
find-none p (w ∷ ws) h = by (p w) refl (find-none p ws)
  where
    by : (b : Bool) → p w ≡ b → (list_any p ws ≡ false → find p ws ≡ None) → find p (w ∷ ws) ≡ None
    by true e r = absurd (let no : true ≡ false = sym (λ i. e i || list_any p ws) ∙ h in cc)
    by false e r = rw e (r (sym (λ i. e i || list_any p ws) ∙ h))

find-some : (p : ℕ → Bool) (ws : List ℕ) → list_any p ws ≡ true → (w : ℕ) × (find p ws ≡ Some w)
find-some p [] h = absurd (cc)
find-some p (w ∷ ws) h = by (p w) refl (find-some p ws)
  where
    by : (b : Bool) → p w ≡ b → (list_any p ws ≡ true → (x : ℕ) × (find p ws ≡ Some x)) → (x : ℕ) × (find p (w ∷ ws) ≡ Some x)
    by true e r = (w, (λ i. if e i then Some w else find p ws))
    by false e r = let rest = r (sym (λ i. e i || list_any p ws) ∙ h) in (rest.0, (λ i. if e i then Some w else find p ws) ∙ rest.1)

pub pairs-first : (p : ℕ → ℕ → Bool) (vs : List ℕ) → find {X = ℕ × ℕ} (λ q. p q.0 q.1) (unit_pairs vs) ≡ first_pair p vs
pairs-first p [] = refl
pairs-first p (v ∷ vs) =
    find-append (λ (q : ℕ × ℕ). p q.0 q.1) (map (λ w. (v, w)) vs) (unit_pairs vs)
    ∙ (λ i. option_or (find-paired p v vs i) (pairs-first p vs i))
    ∙ elim (cases_Bool (list_any (p v) vs)) [
      | inl t ↦
          let some = find-some (p v) vs t in
          ap (λ o. option_or (option_map (λ w. (v, w)) o) (first_pair p vs)) some.1
          ∙ sym (cond-true _ _ _ t ∙ ap (option_map (λ w. (v, w))) some.1)
      | inr f ↦ ap (λ o. option_or (option_map (λ w. (v, w)) o) (first_pair p vs)) (find-none (p v) vs f) ∙ sym (cond-false _ _ _ f)
    ]

-- ---- the events of units

pub span-at : (f : ℕ) (xs : List (Option Access)) (k : ℕ) → k < length xs →
    slice_index_or (spans f xs) k [] ≡ between (f + length (labels (take k xs))) (f + length (labels (take (suc k) xs)))
span-at f [] k h = absurd (omega arith)
span-at f (x ∷ xs) zero h =
    let more = length-append (labels_in x) [] in
    (let e : length (labels_in x) ≡ (f + length (labels_in x ++ [])) - (f + 0) = omega arith in
    let g : f ≡ f + 0 = omega arith in (λ i. numbers_from (g i) (e i)))
span-at f (x ∷ xs) (suc k) h =
    let n = length (labels_in x) in
    let a : (f + n) + length (labels (take k xs)) ≡ f + length (labels_in x ++ labels (take k xs)) = omega (arith, length-append (labels_in x) (labels (take k xs))) in
    let b : (f + n) + length (labels (take (suc k) xs)) ≡ f + length (labels_in x ++ labels (take (suc k) xs)) = omega (arith, length-append (labels_in x) (labels (take (suc k) xs))) in
    span-at (f + n) xs k (omega arith) ∙ (λ i. between (a i) (b i))

numbers-append : (f a b : ℕ) → numbers_from f (a + b) ≡ numbers_from f a ++ numbers_from (f + a) b
numbers-append f zero b = let e : f ≡ f + 0 = omega arith in let g : 0 + b ≡ b = omega arith in (λ i. numbers_from (e i) (g i))
numbers-append f (suc a) b =
    let e : (f + 1) + a ≡ f + suc a = omega arith in
    let g : suc a + b ≡ suc (a + b) = omega arith in
    ap (numbers_from f) g ∙ ap (λ ns. f ∷ ns) (numbers-append (f + 1) a b ∙ ap (λ n. numbers_from (f + 1) a ++ numbers_from n b) e)

-- tests of pairs may be turned
pub any-turned : {A B : Type 0} (p : A → B → Bool) (xs : List A) (ys : List B) → list_any (λ y. list_any (λ x. p x y) xs) ys ≡ list_any (λ x. list_any (p x) ys) xs
any-turned p xs [] = none xs
  where
    none : {A : Type 0} (xs : List A) → false ≡ list_any (λ x. false) xs
    none [] = refl
    none (x ∷ xs) = none xs
any-turned p xs (y ∷ ys) = ap (λ b. list_any (λ x. p x y) xs || b) (any-turned p xs ys) ∙ both xs
  where
    middle : (a b c d : Bool) → ((a || b) || (c || d)) ≡ ((a || c) || (b || d))
    middle true b c d = refl
    middle false true true d = refl
    middle false true false d = refl
    middle false false true d = refl
    middle false false false d = refl

    both : (xs : List _) → (list_any (λ x. p x y) xs || list_any (λ x. list_any (p x) ys) xs) ≡ list_any (λ x. list_any (p x) (y ∷ ys)) xs
    both [] = refl
    both (x ∷ xs) = middle (p x y) (list_any (λ z. p z y) xs) (list_any (p x) ys) (list_any (λ z. list_any (p z) ys) xs) ∙ ap (λ b. (p x y || list_any (p x) ys) || b) (both xs)

-- ---- numbers after others

any-shifted : (p h : ℕ → Bool) (a k m : ℕ) → ((j : ℕ) → k ≤ j → j < k + m → p (a + j) ≡ h j) → list_any p (numbers_from (a + k) m) ≡ list_any h (numbers_from k m)
any-shifted p h a k zero same = refl
any-shifted p h a k (suc m) same =
    let step : (a + k) + 1 ≡ a + (k + 1) = omega arith in
    let here : p (a + k) ≡ h k = same k (omega arith) (omega arith) in
    let rest = ap (λ n. list_any p (numbers_from n m)) step ∙ any-shifted p h a (k + 1) m (λ j low high. same j (omega arith) (omega arith)) in
    (λ i. here i || rest i)

find-shifted : (p h : ℕ → Bool) (a k m : ℕ) → ((j : ℕ) → k ≤ j → j < k + m → p (a + j) ≡ h j) →
    find p (numbers_from (a + k) m) ≡ option_map (λ j. a + j) (find h (numbers_from k m))
find-shifted p h a k zero same = refl
find-shifted p h a k (suc m) same =
    let step : (a + k) + 1 ≡ a + (k + 1) = omega arith in
    let here : p (a + k) ≡ h k = same k (omega arith) (omega arith) in
    let rest = ap (λ n. find p (numbers_from n m)) step ∙ find-shifted p h a (k + 1) m (λ j low high. same j (omega arith) (omega arith)) in
    elim (cases_Bool (h k)) [
      | inl t ↦ cond-true _ _ _ (here ∙ t) ∙ sym (ap (option_map (λ j. a + j)) (cond-true _ _ _ t))
      | inr f ↦ cond-false _ _ _ (here ∙ f) ∙ rest ∙ sym (ap (option_map (λ j. a + j)) (cond-false _ _ _ f))
    ]

find-inside : (p : ℕ → Bool) (k m i : ℕ) → find p (numbers_from k m) ≡ Some i → i < k + m
find-inside p k zero i h = absurd (cc)
find-inside p k (suc m) i h = elim (cases_Bool (p k)) [
  | inl t ↦ let e : Some k ≡ Some i = sym (cond-true _ _ _ t) ∙ h in let same : k ≡ i = cc in omega arith
  | inr f ↦ let less = find-inside p (k + 1) m i (sym (cond-false _ _ _ f) ∙ h) in omega arith
]

pub found-inside : (p : ℕ → Bool) (k n i : ℕ) (o : Option ℕ) → k ≤ n → o ≡ find p (between k n) → o ≡ Some i → i < n
found-inside p k n i o low is some = let inside = find-inside p k (n - k) i (sym is ∙ some) in omega arith

pub none-or-inside : (p : ℕ → Bool) (k n m : ℕ) (o : Option ℕ) → k ≤ n → n ≤ m → o ≡ find p (between k n) → IfSome o (λ j. j < m)
none-or-inside p k n m None low most is = tt
none-or-inside p k n m (Some j) low most is = let inside = found-inside p k n j (Some j) low is refl in omega arith

ordered : (a v : ℕ) (o : Option ℕ) → option_map (λ (q : ℕ × ℕ). order q.0 q.1) (option_map (λ (w : ℕ). (v, w)) (option_map (λ j. a + j) o)) ≡ option_map (λ j. order v (a + j)) o
ordered a v None = refl
ordered a v (Some j) = refl

-- the first of pairs, by the first that has a later one, and its first later one
module _ (p h : ℕ → ℕ → Bool) (turned : ℕ → Bool) (a n : ℕ) (same : (i j : ℕ) → i < j → j < n → p (a + i) (a + j) ≡ h i j)
    (some : (i : ℕ) → i < n → turned i ≡ list_any (h i) (between (i + 1) n)) where
  pub pairs-found : (k m : ℕ) → k + m ≡ n →
      option_map (λ (q : ℕ × ℕ). order q.0 q.1) (first_pair p (numbers_from (a + k) m))
      ≡ (find turned (numbers_from k m) >>= λ i. option_map (λ j. order (a + i) (a + j)) (find (h i) (between (i + 1) n)))
  pairs-found k zero all = refl
  pairs-found k (suc m) all =
      let v = a + k in
      let step : v + 1 ≡ a + (k + 1) = omega arith in
      let left : m ≡ n - (k + 1) = omega arith in
      let alike = λ (j : ℕ) (low : k + 1 ≤ j) (high : j < (k + 1) + m). same k j (omega arith) (omega arith) in
      let anys : list_any (p v) (numbers_from (v + 1) m) ≡ turned k =
      ap (λ b. list_any (p v) (numbers_from b m)) step ∙ any-shifted (p v) (h k) a (k + 1) m alike ∙ ap (λ c. list_any (h k) (numbers_from (k + 1) c)) left ∙ sym (some k (omega arith)) in
      let finds : find (p v) (numbers_from (v + 1) m) ≡ option_map (λ j. a + j) (find (h k) (between (k + 1) n)) =
      ap (λ b. find (p v) (numbers_from b m)) step ∙ find-shifted (p v) (h k) a (k + 1) m alike ∙ ap (λ c. option_map (λ j. a + j) (find (h k) (numbers_from (k + 1) c))) left in
      let seconds = λ (i : ℕ). option_map (λ j. order (a + i) (a + j)) (find (h i) (between (i + 1) n)) in
      elim (cases_Bool (turned k)) [
        | inl t ↦
            ap (option_map (λ (q : ℕ × ℕ). order q.0 q.1)) (cond-true _ _ _ (anys ∙ t))
            ∙ ap (λ (o : Option ℕ). option_map (λ (q : ℕ × ℕ). order q.0 q.1) (option_map (λ (u : ℕ). (v, u)) o)) finds
            ∙ ordered a v (find (h k) (between (k + 1) n))
            ∙ sym (ap (λ o. o >>= seconds) (cond-true _ _ _ t))
        | inr f ↦
            ap (option_map (λ (q : ℕ × ℕ). order q.0 q.1)) (cond-false _ _ _ (anys ∙ f) ∙ ap (λ b. first_pair p (numbers_from b m)) step)
            ∙ pairs-found (k + 1) m (omega arith)
            ∙ sym (ap (λ o. o >>= seconds) (cond-false _ _ _ f))
      ]

-- ---- the events of all later units

between-append : (x y z : ℕ) → x ≤ y → y ≤ z → between x z ≡ between x y ++ between y z
between-append x y z low high =
    let all : z - x ≡ (y - x) + (z - y) = omega arith in
    let middle : x + (y - x) ≡ y = omega arith in
    ap (numbers_from x) all ∙ numbers-append x (y - x) (z - y) ∙ ap (λ n. numbers_from x (y - x) ++ numbers_from n (z - y)) middle

rise : (b : ℕ → ℕ) (k m : ℕ) → ((c : ℕ) → k ≤ c → c < k + m → b c ≤ b (c + 1)) → b k ≤ b (k + m)
rise b k zero rises = let e : k ≡ k + 0 = omega arith in subst (λ c. b k ≤ b c) e (omega arith)
rise b k (suc m) rises =
    let e : (k + 1) + m ≡ k + suc m = omega arith in
    let rest : b (k + 1) ≤ b (k + suc m) = subst (λ c. b (k + 1) ≤ b c) e (rise b (k + 1) m (λ c low high. rises c (omega arith) (omega arith))) in
    omega (arith, rises k (omega arith) (omega arith), rest)

any-later : (q : ℕ → Bool) (b : ℕ → ℕ) (k m : ℕ) → ((c : ℕ) → k ≤ c → c < k + m → b c ≤ b (c + 1)) →
    list_any (λ j. list_any q (between (b j) (b (j + 1)))) (numbers_from k m) ≡ list_any q (between (b k) (b (k + m)))
any-later q b k zero rises = let e : k ≡ k + 0 = omega arith in sym (ap (λ c. list_any q (between (b k) (b c))) (sym e) ∙ ap (list_any q) (between-none (b k) (b k) (omega arith)))
any-later q b k (suc m) rises =
    let e : (k + 1) + m ≡ k + suc m = omega arith in
    let above = λ (c : ℕ) (low : k + 1 ≤ c) (high : c < (k + 1) + m). rises c (omega arith) (omega arith) in
    let rest = any-later q b (k + 1) m above ∙ ap (λ c. list_any q (between (b (k + 1)) (b c))) e in
    let far : b (k + 1) ≤ b (k + suc m) = subst (λ c. b (k + 1) ≤ b c) e (rise b (k + 1) m above) in
    ap (λ c. list_any q (between (b k) (b (k + 1))) || c) rest
    ∙ sym (list_any-append q (between (b k) (b (k + 1))) (between (b (k + 1)) (b (k + suc m))))
    ∙ ap (list_any q) (sym (between-append (b k) (b (k + 1)) (b (k + suc m)) (rises k (omega arith) (omega arith)) far))

-- a unit is turned where an event of some later unit is early
pub unit-some : (flags : List Bool) (ls : List Label) (lines begins : List ℕ) → AreRising begins (length ls) → (i : ℕ) → i < length begins - 1 →
    is_turned_unit flags ls lines begins i ≡ list_any (has_early flags ls lines begins i) (between (i + 1) (length begins - 1))
unit-some flags ls lines begins rising i small =
    let b = slice_index begins in
    let units = length begins - 1 in
    let m = units - (i + 1) in
    let own = between (b i) (b (i + 1)) in
    let early = is_early flags ls (slice_index lines) in
    let all : (i + 1) + m ≡ units = omega arith in
    let end : b ((i + 1) + m) ≡ length ls = ap b all ∙ rising.last in
    any-same (λ x. list_any (early x) (between (b (i + 1)) (length ls))) (λ x. list_any (λ j. list_any (early x) (between (b j) (b (j + 1)))) (between (i + 1) units))
    (λ x. sym (any-later (early x) b (i + 1) m (λ c low high. rising.rises c (omega arith)) ∙ ap (λ n. list_any (early x) (between (b (i + 1)) n)) end)) own
    ∙ sym (any-turned (λ x j. list_any (early x) (between (b j) (b (j + 1)))) own (between (i + 1) units))
