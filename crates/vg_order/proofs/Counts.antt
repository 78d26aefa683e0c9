-- How often numbers stand in lists.
use Rattle.std.proofs.Common.{◌≡◌, ◌≢◌, ℕ, zero, suc, ◌+◌, ◌<◌, ◌≤◌, Bool, true, false, List, [], ◌∷◌, ◌++◌, length, drop, map, refl, sym, ap, ◌⊎◌, inl, inr, arith, get_or}
use Rattle.std.specs.Prelude.{slice_index, ◌==◌}
use Rattle.std.specs.List.{concat}
use Rattle.std.proofs.lemmas.Bool.{cases_Bool, cases_eq, eq-eqb, eqb-true, ne_eqb}
use Rattle.vg_shapes.specs.Order.{count_of, one_if, Stands}
use Rattle.vg_order.specs.ByList.{AreOnce}

pub count_of-append : (x : ℕ) (ys zs : List ℕ) → count_of x (ys ++ zs) ≡ count_of x ys + count_of x zs
count_of-append x [] zs = omega arith
count_of-append x (y ∷ ys) zs = omega (arith, count_of-append x ys zs)

pub count_of-push : (x y : ℕ) (ys : List ℕ) → count_of x (ys ++ y ∷ []) ≡ count_of x ys + one_if (x == y)
count_of-push x y ys = let one : count_of x (y ∷ []) ≡ one_if (x == y) = omega arith in omega (arith, count_of-append x ys (y ∷ []))

pub count_of-drop : (x k : ℕ) (ys : List ℕ) → count_of x (drop k ys) ≤ count_of x ys
count_of-drop x zero ys = omega arith
count_of-drop x (suc k) [] = omega arith
count_of-drop x (suc k) (y ∷ ys) = omega (arith, count_of-drop x k ys)

at_most_one : (b : Bool) → one_if b ≤ 1
at_most_one true = omega arith
at_most_one false = omega arith

same-behind : (f : ℕ → ℕ) (x y : ℕ) → one_if (x == y) ≤ one_if (f x == f y)
same-behind f x y = elim (cases_eq x y) [
  | inl e ↦ (let one : one_if (f x == f y) ≡ 1 = ap one_if (eq-eqb (f x) (f y) (ap f e)) in let most = at_most_one (x == y) in omega (arith, one, most))
  | inr e ↦ (let none : one_if (x == y) ≡ 0 = ap one_if (ne_eqb x y e) in omega (arith, none))
]

pub fewer-behind : (f : ℕ → ℕ) (x : ℕ) (xs : List ℕ) → count_of x xs ≤ count_of (f x) (map f xs)
fewer-behind f x [] = omega arith
fewer-behind f x (y ∷ ys) = omega (arith, fewer-behind f x ys, same-behind f x y)

-- what stands once after a function stands once
pub once-from_map : (f : ℕ → ℕ) (xs : List ℕ) → AreOnce (map f xs) → AreOnce xs
once-from_map f xs h x = omega (arith, fewer-behind f x xs, h (f x))

-- where a number stands
pub stands_where : (x : ℕ) (xs : List ℕ) → Stands x xs → (k : ℕ) × (k < length xs) × (slice_index xs k ≡ x)
stands_where x [] h = absurd (omega arith)
stands_where x (y ∷ ys) h = elim (cases_Bool (x == y)) [
  | inl t ↦ (0, omega arith, sym (eqb-true x y t))
  | inr f ↦ (let none : one_if (x == y) ≡ 0 = ap one_if f in let rest = stands_where x ys (omega arith) in (suc rest.0, (let b = rest.1 in omega arith), rest.2))
]

pub stands_at : (xs : List ℕ) (k : ℕ) → k < length xs → Stands (slice_index xs k) xs
stands_at [] k h = absurd (omega arith)
stands_at (x ∷ xs) zero h = let one : one_if (x == x) ≡ 1 = ap one_if (eq-eqb x x refl) in omega arith
stands_at (x ∷ xs) (suc k) h = let rest = stands_at xs k (omega arith) in omega arith

pub none_stands : (xs : List ℕ) (x : ℕ) → ((k : ℕ) → k < length xs → slice_index xs k ≢ x) → count_of x xs ≡ 0
none_stands [] x h = refl
none_stands (y ∷ ys) x h =
    let first : one_if (x == y) ≡ 0 = ap one_if (ne_eqb x y (λ e. h 0 (omega arith) (sym e))) in
    omega (arith, none_stands ys x (λ k b. h (suc k) (omega arith)))

-- after the first so many
pub stands-drop : (x from : ℕ) (xs : List ℕ) → Stands x (drop from xs) → (k : ℕ) × (from ≤ k) × (k < length xs) × (slice_index xs k ≡ x)
stands-drop x zero xs h = let at = stands_where x xs h in (at.0, omega arith, at.1, at.2)
stands-drop x (suc from) [] h = absurd (omega arith)
stands-drop x (suc from) (y ∷ ys) h =
    let at = stands-drop x from ys h in
    (suc at.0, (let b = at.1 in omega arith), (let b = at.2 in omega arith), at.3)

pub drop-stands : (to k : ℕ) (xs : List ℕ) → to ≤ k → k < length xs → Stands (slice_index xs k) (drop to xs)
drop-stands zero k xs low high = stands_at xs k high
drop-stands (suc to) k [] low high = absurd (omega arith)
drop-stands (suc to) zero (x ∷ xs) low high = absurd (omega arith)
drop-stands (suc to) (suc k) (x ∷ xs) low high = drop-stands to k xs (omega arith) (omega arith)

-- in one of two lists, and in one of several
pub stands-append : (x : ℕ) (ys zs : List ℕ) → Stands x (ys ++ zs) → Stands x ys ⊎ Stands x zs
stands-append x ys zs h = by (count_of x ys) refl
  where
    by : (n : ℕ) → count_of x ys ≡ n → Stands x ys ⊎ Stands x zs
    by zero e = inr (let sum = count_of-append x ys zs in omega arith)
    by (suc n) e = inl (omega arith)

pub concat-stands : (x row : ℕ) (rows : List (List ℕ)) → row < length rows → Stands x (get_or rows row []) → Stands x (concat rows)
concat-stands x row [] h s = absurd (omega arith)
concat-stands x zero (r ∷ rows) h s = let sum = count_of-append x r (concat rows) in omega arith
concat-stands x (suc row) (r ∷ rows) h s =
    let rest = concat-stands x row rows (omega arith) s in
    let sum = count_of-append x r (concat rows) in
    omega arith
