-- Sums over the numbers below an end, and how often numbers stand in lists.
use Rattle.std.proofs.Common.{◌≡◌, ℕ, zero, suc, ◌+◌, ◌<◌, ◌≤◌, true, false, List, [], ◌∷◌, ◌++◌, refl, sym, ◌∙◌, ap, subst, inl, inr, arith, add_assoc}
use Rattle.std.specs.Prelude.{◌||◌, nat_eq, nat_lt, if◌then◌else◌}
use Rattle.std.specs.List.{sum_by}
use Rattle.std.proofs.lemmas.Bool.{cases_Bool}
use Rattle.std.proofs.lemmas.Bool.Decides.{nat_tests}
use Rattle.std.proofs.lemmas.List.Sums.{sum_by-cons}
use Rattle.vg_plans.specs.World.{is_in}
use Rattle.vg_shapes.specs.Depends.{numbers_below}
use Rattle.vg_cost.specs.Needs.{times_in, under}

abbrev pub below : (ℕ → ℕ) → ℕ → ℕ
below f n = sum_by f (numbers_below n)

pub sum-next : (f : ℕ → ℕ) (n : ℕ) → below f (suc n) ≡ f n + below f n
sum-next f n = sum_by-cons f n (numbers_below n)

pub sum-none : (f : ℕ → ℕ) (n : ℕ) → ((u : ℕ) → u < n → f u ≡ 0) → below f n ≡ 0
sum-none f zero e = refl
sum-none f (suc n) e =
    let a = sum-next f n in
    let b = e n (omega arith) in
    let c = sum-none f n (λ u l. e u (omega (arith, l))) in
    omega (arith, a, b, c)

-- up to a number: below it, or the number itself
pub by-end : (n e : ℕ) (P : ℕ → Type 0) → n ≤ suc e → (n ≤ e → P n) → P (suc e) → P n
by-end n e P l less same = elim (cases_Bool (nat_lt n (suc e))) [
  | inl t ↦ less (let k : n < suc e = grind (arith, nat_tests, t) in omega (arith, k))
  | inr f ↦
      let k : suc e ≤ n = grind (arith, nat_tests, f) in
      let q : suc e ≡ n = omega (arith, k, l) in
      subst P q same
]

pub sum-less : (f : ℕ → ℕ) (n end : ℕ) → n ≤ end → below f n ≤ below f end
sum-less f zero end l = omega arith
sum-less f (suc n) zero l = absurd (omega (arith, l))
sum-less f (suc n) (suc e) l = by-end (suc n) e (λ m. below f m ≤ below f (suc e)) l
    (λ k. let r = sum-less f (suc n) e k in let a = sum-next f e in omega (arith, r, a))
    (omega arith)

-- what is the same from a number on changes two sums alike
pub sum-apart : (f g : ℕ → ℕ) (n end : ℕ) → n ≤ end → ((u : ℕ) → n ≤ u → u < end → f u ≡ g u)
    → below f end + below g n ≡ below g end + below f n
sum-apart f g zero zero l same = refl
sum-apart f g (suc n) zero l same = absurd (omega (arith, l))
sum-apart f g n (suc e) l same = by-end n e (λ m. below f (suc e) + below g m ≡ below g (suc e) + below f m) l
    (λ k.
    let r = sum-apart f g n e k (λ u a b. same u a (omega (arith, b))) in
    let s = same e k (omega arith) in
    let a = sum-next f e in
    let b = sum-next g e in
    omega (arith, r, s, a, b))
    (omega arith)

-- one number is taken from the sum of `old` to that of the new values, whose lesser ones may change
pub sum-step : (old now new : ℕ → ℕ) (u end x y c : ℕ) → u < end → ((w : ℕ) → u ≤ w → w < end → new w ≡ now w)
    → x + below now (suc u) ≡ c + below now end + below old (suc u)
    → y + old u ≡ x + now u → y + below new u ≡ c + below new end + below old u
sum-step old now new u end x y c l same e s =
    let a = sum-next now u in
    let b = sum-next old u in
    let k = sum-apart new now u end (omega (arith, l)) same in
    omega (arith, a, b, k, e, s)

-- the number has its part in the sum
pub sum-has : (old now : ℕ → ℕ) (u end x c : ℕ) → u < end
    → x + below now (suc u) ≡ c + below now end + below old (suc u) → old u ≤ x
sum-has old now u end x c l e =
    let a = sum-less now (suc u) end (omega (arith, l)) in
    let b = sum-next old u in
    omega (arith, a, b, e)

abbrev pub one_of : ℕ → ℕ → ℕ
one_of v x = if nat_eq v x then 1 else 0

pub times-append : (v : ℕ) (xs ys : List ℕ) → times_in v (xs ++ ys) ≡ times_in v xs + times_in v ys
times-append v [] ys = omega arith
times-append v (x ∷ xs) ys =
    ap (λ n. one_of v x + n) (times-append v xs ys) ∙ sym (add_assoc (one_of v x) (times_in v xs) (times_in v ys))

-- a number that stands there some times is there
pub times-is : (v : ℕ) (xs : List ℕ) → is_in v xs ≡ nat_lt 0 (times_in v xs)
times-is v [] = refl
times-is v (x ∷ xs) = elim (cases_Bool (nat_eq v x)) [
  | inl t ↦ rw t (sym (some (times_in v xs)))
  | inr f ↦ rw f (times-is v xs ∙ ap (nat_lt 0) (none (times_in v xs)))
] where
  some : (n : ℕ) → nat_lt 0 (1 + n) ≡ true
  some n = grind (arith, nat_tests)

  none : (n : ℕ) → n ≡ 0 + n
  none n = omega arith

pub times-under : (v n : ℕ) (xs : List ℕ) → v < n → times_in v (under n xs) ≡ times_in v xs
times-under v n [] l = refl
times-under v n (x ∷ xs) l = elim (cases_Bool (nat_lt x n)) [
  | inl t ↦ rw t (ap (λ k. one_of v x + k) (times-under v n xs l))
  | inr f ↦
      let le : n ≤ x = grind (arith, nat_tests, f) in
      let other : nat_eq v x ≡ false = not-same v x (omega (arith, l, le)) in
      rw (f, other) (let r = times-under v n xs l in omega (arith, r))
] where
  not-same : (v x : ℕ) → v < x → nat_eq v x ≡ false
  not-same v x l = elim (cases_Bool (nat_eq v x)) [
    | inl t ↦ absurd (let k : v ≡ x = grind (arith, nat_tests, t) in omega (arith, k, l))
    | inr f ↦ f
  ]

pub times-over : (v n : ℕ) (xs : List ℕ) → n ≤ v → times_in v (under n xs) ≡ 0
times-over v n [] l = refl
times-over v n (x ∷ xs) l = elim (cases_Bool (nat_lt x n)) [
  | inl t ↦
      let lt : x < n = grind (arith, nat_tests, t) in
      let other : nat_eq v x ≡ false = above v x (omega (arith, l, lt)) in
      rw (t, other) (let r = times-over v n xs l in omega (arith, r))
  | inr f ↦ rw f (times-over v n xs l)
] where
  above : (v x : ℕ) → x < v → nat_eq v x ≡ false
  above v x l = elim (cases_Bool (nat_eq v x)) [
    | inl t ↦ absurd (let k : v ≡ x = grind (arith, nat_tests, t) in omega (arith, k, l))
    | inr f ↦ f
  ]

pub some-either : (t x : ℕ) → nat_lt 0 t || nat_lt 0 x ≡ nat_lt 0 (x + t)
some-either zero x = ap (nat_lt 0) (none x) where
  none : (n : ℕ) → n ≡ n + 0
  none n = omega arith
some-either (suc t) x =
    let a : nat_lt 0 (suc t) ≡ true = grind (arith, nat_tests) in
    let b : nat_lt 0 (x + suc t) ≡ true = grind (arith, nat_tests) in
    ap (λ q. q || nat_lt 0 x) a ∙ sym b
