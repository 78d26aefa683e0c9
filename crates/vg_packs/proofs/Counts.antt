-- How many of a run of numbers pass a test and lie below one.
use Rattle.std.proofs.Common.{◌≡◌, ℕ, zero, suc, ◌+◌, ◌<◌, ◌≤◌, Bool, true, false, List, [], ◌∷◌, ◌++◌, length, filter, refl, sym, ◌∙◌, ap, subst, inl, inr, arith}
use Rattle.std.specs.Prelude.{◌&&◌, nat_eq, nat_lt, Some, slice_get}
use Rattle.std.proofs.lemmas.Bool.{cases_Bool}
use Rattle.std.proofs.lemmas.Bool.Decides.{nat_tests}
use Rattle.vg_shapes.specs.Order.{numbers_from, one_if}

abbrev pub count_below : (ℕ → Bool) → ℕ → ℕ → ℕ → ℕ
count_below p f n v = length (filter (λ u. nat_lt u v && p u) (numbers_from f n))

pub lt-is : (a b : ℕ) → a < b → nat_lt a b ≡ true
lt-is a b l = grind (arith, nat_tests, l)

lt-not : (a b : ℕ) → b ≤ a → nat_lt a b ≡ false
lt-not a b l = grind (arith, nat_tests, l)

pub none-below : (p : ℕ → Bool) (f n v : ℕ) → v ≤ f → count_below p f n v ≡ 0
none-below p f zero v l = refl
none-below p f (suc n) v l = rw (lt-not f v l) (none-below p (f + 1) n v (omega (arith, l)))

count-head : (p : ℕ → Bool) (f n : ℕ) → count_below p f (suc n) (f + 1) ≡ one_if (p f)
count-head p f n =
    let z = none-below p (f + 1) n (f + 1) (omega arith) in
    rw (lt-is f (f + 1) (omega arith)) (elim (cases_Bool (p f)) [
      | inl t ↦ rw t (omega (arith, z))
      | inr g ↦ rw g z
    ])

pub count-next : (p : ℕ → Bool) (f n v : ℕ) → f ≤ v → v < f + n
    → count_below p f n (v + 1) ≡ count_below p f n v + one_if (p v)
count-next p f zero v a b = absurd (omega (arith, a, b))
count-next p f (suc n) v a b = elim (cases_Bool (nat_eq f v)) [
  | inl t ↦
      let e : f ≡ v = grind (arith, nat_tests, t) in
      let h = count-head p f n in
      let z = none-below p f (suc n) f (omega arith) in
      subst (λ v. count_below p f (suc n) (v + 1) ≡ count_below p f (suc n) v + one_if (p v)) e (omega (arith, h, z))
  | inr g ↦
      let l : f < v = grind (arith, nat_tests, g, a) in
      let h = count-next p (f + 1) n v (omega (arith, l)) (omega (arith, b)) in
      rw (lt-is f (v + 1) (omega (arith, l)), lt-is f v l) (elim (cases_Bool (p f)) [
        | inl t ↦ rw t (omega (arith, h))
        | inr k ↦ rw k h
      ])
]

pub count-taken : (p : ℕ → Bool) (f n k : ℕ) → k ≤ n
    → count_below p f n (f + k) ≡ length (filter p (numbers_from f k))
count-taken p f n zero l = let e : f + 0 ≡ f = omega arith in rw e (none-below p f n f (omega arith))
count-taken p f zero (suc k) l = absurd (omega (arith, l))
count-taken p f (suc n) (suc k) l =
    let e : f + suc k ≡ f + 1 + k = omega arith in
    let h = count-taken p (f + 1) n k (omega (arith, l)) in
    let moved : count_below p f (suc n) (f + 1 + k) ≡ length (filter p (numbers_from f (suc k))) =
    rw (lt-is f (f + 1 + k) (omega arith)) (elim (cases_Bool (p f)) [
      | inl t ↦ rw t (omega (arith, h))
      | inr g ↦ rw g h
    ])
    in
    subst (λ m. count_below p f (suc n) m ≡ length (filter p (numbers_from f (suc k)))) (sym e) moved

kept-first : (p : ℕ → Bool) (f v : ℕ) (xs : List ℕ) → p f ≡ true → f ≡ v
    → slice_get (filter p (f ∷ xs)) 0 ≡ Some v
kept-first p f v xs t e = rw t (ap Some e)

-- a number that passes stands after those below it that do
pub nth-kept : (p : ℕ → Bool) (f n v : ℕ) → f ≤ v → v < f + n → p v ≡ true
    → slice_get (filter p (numbers_from f n)) (count_below p f n v) ≡ Some v
nth-kept p f zero v a b t = absurd (omega (arith, a, b))
nth-kept p f (suc n) v a b t = elim (cases_Bool (nat_eq f v)) [
  | inl s ↦
      let e : f ≡ v = grind (arith, nat_tests, s) in
      ap (λ k. slice_get (filter p (numbers_from f (suc n))) k) (none-below p f (suc n) v (omega (arith, e)))
      ∙ kept-first p f v (numbers_from (f + 1) n) (ap p e ∙ t) e
  | inr g ↦
      let l : f < v = grind (arith, nat_tests, g, a) in
      let h = nth-kept p (f + 1) n v (omega (arith, l)) (omega (arith, b)) t in
      rw (lt-is f v l) (elim (cases_Bool (p f)) [
        | inl s ↦ rw s h
        | inr k ↦ rw k h
      ])
]

pub numbers-more : (f n : ℕ) → numbers_from f (suc n) ≡ numbers_from f n ++ (f + n) ∷ []
numbers-more f zero = let e : f + 0 ≡ f = omega arith in rw e refl
numbers-more f (suc n) =
    let e : f + 1 + n ≡ f + suc n = omega arith in
    ap (λ xs. f ∷ xs) (numbers-more (f + 1) n ∙ ap (λ k. numbers_from (f + 1) n ++ k ∷ []) e)
