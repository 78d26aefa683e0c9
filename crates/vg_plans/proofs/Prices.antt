-- Two prices that agree choose the same; and the first of the least price in two lists, one after the other.
use Rattle.std.proofs.Common.{◌≡◌, ℕ, zero, suc, ◌<◌, ◌≤◌, Bool, true, false, List, [], ◌∷◌, ◌++◌, length, take, refl, sym, ◌∙◌, ap, inl, inr, arith}
use Rattle.std.specs.Prelude.{nat_le, nat_lt, if◌then◌else◌}
use Rattle.std.proofs.lemmas.Bool.{cases_Bool}
use Rattle.std.proofs.lemmas.Bool.Decides.{nat_tests}
use Rattle.vg_plans.specs.Levels.{candidates, first_least, insert_by, kept_of, kept_within, level_of, met_within, sort_by}

module _ {X : Type 0} (f g : X → ℕ) (same : (x : X) → f x ≡ g x) where
  pub least-same : (best : X) (xs : List X) → first_least f best xs ≡ first_least g best xs
  least-same best [] = refl
  least-same best (x ∷ xs) = rw (same x, same best) (least-same (if nat_lt (g x) (g best) then x else best) xs)

  insert-same : (x : X) (ys : List X) → insert_by f x ys ≡ insert_by g x ys
  insert-same x [] = refl
  insert-same x (y ∷ ys) = rw (same x, same y, insert-same x ys) refl

  sort-same : (xs : List X) → sort_by f xs ≡ sort_by g xs
  sort-same [] = refl
  sort-same (x ∷ xs) = ap (insert_by f x) (sort-same xs) ∙ insert-same x (sort_by g xs)

  pub kept-same : (width : ℕ) (xs : List X) → kept_of f width xs ≡ kept_of g width xs
  kept-same width xs = ap (λ ys. if nat_le (length xs) width then xs else take width ys) (sort-same xs)

module _ {P : Type 0} (follows : List P → List P) (alike : List P → List P → Bool) (f g : List P → ℕ) (same : (plan : List P) → f plan ≡ g plan) (width : ℕ) where
  pub level-same : (d : ℕ) → level_of follows alike f width d ≡ level_of follows alike g width d
  unfolding level_of
  level-same zero = refl
  level-same (suc d) =
      ap (λ l. kept_of f width (candidates follows alike l)) (level-same d)
      ∙ kept-same f g same width (candidates follows alike (level_of follows alike g width d))

  pub met-same : (sizes : ℕ) → met_within follows alike f width sizes ≡ met_within follows alike g width sizes
  unfolding met_within
  met-same zero = refl
  met-same (suc d) = rw (met-same d, level-same d) refl

  pub kept_within-same : (sizes : ℕ) → kept_within follows alike f width sizes ≡ kept_within follows alike g width sizes
  unfolding kept_within
  kept_within-same zero = refl
  kept_within-same (suc d) = rw (kept_within-same d, level-same (suc d)) refl

-- ---- the first of the least price

module _ {X : Type 0} (key : X → ℕ) where
  pub least-append : (best : X) (xs ys : List X) → first_least key best (xs ++ ys) ≡ first_least key (first_least key best xs) ys
  least-append best [] ys = refl
  least-append best (x ∷ xs) ys = least-append (if nat_lt (key x) (key best) then x else best) xs ys

  if-true : (b : Bool) (x y : X) → b ≡ true → (if b then x else y) ≡ x
  if-true b x y t = rw t refl

  if-false : (b : Bool) (x y : X) → b ≡ false → (if b then x else y) ≡ y
  if-false b x y f = rw f refl

  -- what is found after one is found after a lesser one too, where it is less than that
  found-lower : (best low : X) (xs : List X) → key low ≤ key best → key (first_least key best xs) < key low
      → first_least key low xs ≡ first_least key best xs
  found-lower best low [] l h = absurd (omega (arith, l, h))
  found-lower best low (x ∷ xs) l h = elim (cases_Bool (nat_lt (key x) (key low))) [
    | inl t ↦
        let less : key x < key low = grind (arith, nat_tests, t) in
        let u : nat_lt (key x) (key best) ≡ true = grind (arith, nat_tests, less, l) in
        ap (λ q. first_least key q xs) (if-true (nat_lt (key x) (key low)) x low t ∙ sym (if-true (nat_lt (key x) (key best)) x best u))
    | inr f ↦
        let more : key low ≤ key x = grind (arith, nat_tests, f) in
        let next = if nat_lt (key x) (key best) then x else best in
        ap (λ q. first_least key q xs) (if-false (nat_lt (key x) (key low)) x low f)
        ∙ found-lower next low xs (either x more) h
  ]
    where
      either : (y : X) → key low ≤ key y → key low ≤ key (if nat_lt (key y) (key best) then y else best)
      either y m = elim (cases_Bool (nat_lt (key y) (key best))) [ inl t ↦ rw t m | inr f ↦ rw f l ]

  least-below-first : (best x : X) (xs : List X) → key best ≤ key x → key (first_least key best xs) ≤ key x
  least-below-first best x [] l = l
  least-below-first best x (y ∷ ys) l = least-below-first (if nat_lt (key y) (key best) then y else best) x ys (elim (cases_Bool (nat_lt (key y) (key best))) [
    | inl t ↦ rw t (let less : key y < key best = grind (arith, nat_tests, t) in omega (arith, less, l))
    | inr f ↦ rw f l
  ])

  not-lower : (best low : X) (xs : List X) → key low ≤ key best → key low ≤ key (first_least key best xs)
      → first_least key low xs ≡ low
  not-lower best low [] l h = refl
  not-lower best low (x ∷ xs) l h =
      let next = if nat_lt (key x) (key best) then x else best in
      let below : key (first_least key next xs) ≤ key x = least-below-first next x xs (first-below x) in
      let f : nat_lt (key x) (key low) ≡ false = let m : key low ≤ key x = omega (arith, h, below) in grind (arith, nat_tests, m) in
      ap (λ q. first_least key q xs) (if-false (nat_lt (key x) (key low)) x low f)
      ∙ not-lower next low xs (let b = least-below-first next next xs (omega arith) in omega (arith, h, b)) h
    where
      first-below : (y : X) → key (if nat_lt (key y) (key best) then y else best) ≤ key y
      first-below y = elim (cases_Bool (nat_lt (key y) (key best))) [
        | inl t ↦ rw t (omega arith)
        | inr f ↦ rw f (grind (arith, nat_tests, f))
      ]

  -- two lists searched beside each other: the second from one that is no less than what the first gives
  pub least-beside : (best start : X) (xs : List X) → key best ≤ key start
      → first_least key best xs ≡ first_least key best (first_least key start xs ∷ [])
  least-beside best start xs l = elim (cases_Bool (nat_lt (key (first_least key start xs)) (key best))) [
    | inl t ↦
        let less : key (first_least key start xs) < key best = grind (arith, nat_tests, t) in
        found-lower start best xs l less ∙ sym (if-true (nat_lt (key (first_least key start xs)) (key best)) (first_least key start xs) best t)
    | inr f ↦
        let more : key best ≤ key (first_least key start xs) = grind (arith, nat_tests, f) in
        not-lower start best xs l more ∙ sym (if-false (nat_lt (key (first_least key start xs)) (key best)) (first_least key start xs) best f)
  ]
