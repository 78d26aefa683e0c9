-- The values of the greater of a sum and 0, and of tests.
use Rattle.std.proofs.Common.{◌≡◌, ℕ, refl, sym, ap, ◌∙◌, subst, arith, true, false, Bool}
use Rattle.std.specs.Prelude.{ℤ, pos, negsuc, ◌+ℤ◌, ◌*ℤ◌, ◌≤ℤ◌, ◌<ℤ◌, int_le, int_lt, Option, Some, None, IfSome, if◌then◌else◌}
use Rattle.std.specs.Ordering.{int_eq}
use Rattle.std.proofs.lemmas.Int.{ints}
use Rattle.std.proofs.lemmas.Bool.{cond_both}
use Rattle.vg_base.specs.Trap.{◌>>=◌}
use Rattle.vg_terms.specs.declared.value.Env.{Env}
use Rattle.vg_sums.specs.declared.kind.Kind.{Kind}
use Rattle.vg_sums.specs.declared.kind.Kind.TheVariants.{Positive, Negative, Zero}
use Rattle.vg_sums.specs.declared.span.Span.{Span}
use Rattle.vg_sums.specs.Arithmetic.{add, add_number, negated, product, subtract}
use Rattle.vg_sums.specs.Choices.{atom, complement, is_natural, is_negative, is_turned, negative, one, opposite, positive, selected, shows_natural, shows_negative, zero}
use Rattle.vg_sums.specs.Spans.{In, greater, span}
use Rattle.vg_sums.specs.Sums.{Polynomial, atom_value, nothing, number, plus, sum_value, truth}
use Rattle.vg_sums.proofs.Spans.{span-value}
use Rattle.vg_sums.proofs.Values.{Makes, add-value, add_number-value, negated-value, product-value, subtract-value}
use Rattle.vg_sums.proofs.Whole.{then_some}

-- ---- what a span shows

shows_natural-means : (m : Option Span) (z : ℤ) → IfSome m (λ s. In s z) → shows_natural m ≡ true → pos 0 ≤ℤ z
shows_natural-means (Some s) z h t = let l : pos 0 ≤ℤ s.least = grind (arith, ints, t) in omega (arith, ints, h.above)
shows_natural-means None z h t = absurd (cc)

shows_negative-means : (m : Option Span) (z : ℤ) → IfSome m (λ s. In s z) → shows_negative m ≡ true → z <ℤ pos 0
shows_negative-means (Some s) z h t = let l : s.greatest <ℤ pos 0 = grind (arith, ints, t) in omega (arith, ints, h.below)
shows_negative-means None z h t = absurd (cc)

natural-means : (env : Env) (p : Polynomial) → is_natural p ≡ true → pos 0 ≤ℤ sum_value env p
natural-means env p t = shows_natural-means (span p) (sum_value env p) (span-value env p) t

negative-means : (env : Env) (p : Polynomial) → is_negative p ≡ true → sum_value env p <ℤ pos 0
negative-means env p t = shows_negative-means (span p) (sum_value env p) (span-value env p) t

-- ---- whole numbers

atom_once : (z : ℤ) → z *ℤ pos 1 +ℤ pos 0 ≡ z
atom_once z = omega (arith, ints)

pub atom-value : (env : Env) (k : Kind) (p : Polynomial) → sum_value env (atom k p) ≡ atom_value env k (sum_value env p)
atom-value env k p = atom_once (atom_value env k (sum_value env p))

greater-natural : (z : ℤ) → pos 0 ≤ℤ z → z ≡ greater z (pos 0)
greater-natural z h = grind (arith, ints)

greater-negative : (z : ℤ) → z <ℤ pos 0 → pos 0 ≡ greater z (pos 0)
greater-negative z h = grind (arith, ints)

-- the greater of z and 0 is z and the greater of -z and 0
greater-turned : (z n : ℤ) → n ≡ negsuc 0 *ℤ z → z +ℤ greater n (pos 0) ≡ greater z (pos 0)
greater-turned z n e = grind (arith, ints)

test-natural : (z : ℤ) → pos 0 ≤ℤ z → pos 0 ≡ truth (int_lt z (pos 0))
test-natural z h = grind (arith, ints)

test-negative : (z : ℤ) → z <ℤ pos 0 → pos 1 ≡ truth (int_lt z (pos 0))
test-negative z h = grind (arith, ints)

-- a number is below 0 unless -1 less it is
test-turned : (z n : ℤ) → n ≡ negsuc 0 +ℤ negsuc 0 *ℤ z → pos 1 +ℤ negsuc 0 *ℤ truth (int_lt n (pos 0)) ≡ truth (int_lt z (pos 0))
test-turned z n e = grind (arith, ints)

zero-negative : (z : ℤ) → z <ℤ pos 0 → pos 0 ≡ truth (int_eq z (pos 0))
zero-negative z h = grind (arith, ints)

-- what is not below 0 is 0 where it is below 1
zero-natural : (z n : ℤ) → pos 0 ≤ℤ z → n ≡ negsuc 0 +ℤ z → truth (int_lt n (pos 0)) ≡ truth (int_eq z (pos 0))
zero-natural z n h e = grind (arith, ints)

zero-turned : (z n : ℤ) → n ≡ negsuc 0 *ℤ z → truth (int_eq n (pos 0)) ≡ truth (int_eq z (pos 0))
zero-turned z n e = grind (arith, ints)

-- ---- the greater, and tests

pub positive-value : (env : Env) (p : Polynomial) → Makes env (positive p) (greater (sum_value env p) (pos 0))
positive-value env p =
    let z = sum_value env p in
    cond_both (is_natural p) _ _ (λ m. Makes env m (greater z (pos 0))) (λ t. greater-natural z (natural-means env p t))
    (λ t. cond_both (is_negative p) _ _ (λ m. Makes env m (greater z (pos 0))) (λ u. greater-negative z (negative-means env p u))
    (λ u. cond_both (is_turned p) _ _ (λ m. Makes env m (greater z (pos 0)))
    (λ v. then_some (λ n. sum_value env n ≡ negsuc 0 *ℤ z) (λ r. sum_value env r ≡ greater z (pos 0)) (negated p) _ (negated-value env p)
    (λ n e. subst (λ x. Makes env (add p (atom Positive n)) x)
    (ap (λ x. z +ℤ x) (atom-value env Positive n) ∙ greater-turned z (sum_value env n) e)
    (add-value env p (atom Positive n))))
    (λ v. atom-value env Positive p)))

pub complement-value : (env : Env) (p : Polynomial) → Makes env (complement p) (negsuc 0 +ℤ negsuc 0 *ℤ sum_value env p)
complement-value env p =
    then_some (λ n. sum_value env n ≡ negsuc 0 *ℤ sum_value env p) (λ r. sum_value env r ≡ negsuc 0 +ℤ negsuc 0 *ℤ sum_value env p) (negated p) _ (negated-value env p)
    (λ n e. subst (λ x. Makes env (add_number (negsuc 0) n) x) (ap (λ x. negsuc 0 +ℤ x) e) (add_number-value env (negsuc 0) n))

opposite-value : (env : Env) (p : Polynomial) → Makes env (opposite p) (pos 1 +ℤ negsuc 0 *ℤ sum_value env p)
opposite-value env p =
    then_some (λ n. sum_value env n ≡ negsuc 0 *ℤ sum_value env p) (λ r. sum_value env r ≡ pos 1 +ℤ negsuc 0 *ℤ sum_value env p) (negated p) _ (negated-value env p)
    (λ n e. subst (λ x. Makes env (add_number (pos 1) n) x) (ap (λ x. pos 1 +ℤ x) e) (add_number-value env (pos 1) n))

pub negative-value : (env : Env) (p : Polynomial) → Makes env (negative p) (truth (int_lt (sum_value env p) (pos 0)))
negative-value env p =
    let z = sum_value env p in
    cond_both (is_natural p) _ _ (λ m. Makes env m (truth (int_lt z (pos 0)))) (λ t. test-natural z (natural-means env p t))
    (λ t. cond_both (is_negative p) _ _ (λ m. Makes env m (truth (int_lt z (pos 0)))) (λ u. test-negative z (negative-means env p u))
    (λ u. cond_both (is_turned p) _ _ (λ m. Makes env m (truth (int_lt z (pos 0))))
    (λ v. then_some (λ n. sum_value env n ≡ negsuc 0 +ℤ negsuc 0 *ℤ z) (λ r. sum_value env r ≡ truth (int_lt z (pos 0))) (complement p) _ (complement-value env p)
    (λ n e. subst (λ x. Makes env (opposite (atom Negative n)) x)
    (ap (λ x. pos 1 +ℤ negsuc 0 *ℤ x) (atom-value env Negative n) ∙ test-turned z (sum_value env n) e)
    (opposite-value env (atom Negative n))))
    (λ v. atom-value env Negative p)))

pub zero-value : (env : Env) (p : Polynomial) → Makes env (zero p) (truth (int_eq (sum_value env p) (pos 0)))
zero-value env p =
    let z = sum_value env p in
    cond_both (is_negative p) _ _ (λ m. Makes env m (truth (int_eq z (pos 0)))) (λ t. zero-negative z (negative-means env p t))
    (λ t. cond_both (is_natural p) _ _ (λ m. Makes env m (truth (int_eq z (pos 0))))
    (λ u. then_some (λ n. sum_value env n ≡ negsuc 0 +ℤ z) (λ r. sum_value env r ≡ truth (int_eq z (pos 0))) (add_number (negsuc 0) p) _ (add_number-value env (negsuc 0) p)
    (λ n e. subst (λ x. Makes env (negative n) x) (zero-natural z (sum_value env n) (natural-means env p u) e) (negative-value env n)))
    (λ u. cond_both (is_turned p) _ _ (λ m. Makes env m (truth (int_eq z (pos 0))))
    (λ v. then_some (λ n. sum_value env n ≡ negsuc 0 *ℤ z) (λ r. sum_value env r ≡ truth (int_eq z (pos 0))) (negated p) _ (negated-value env p)
    (λ n e. atom-value env Zero n ∙ zero-turned z (sum_value env n) e))
    (λ v. atom-value env Zero p)))

-- ---- choices

pub selected-value : (env : Env) (c p q : Polynomial) → Makes env (selected c p q) (sum_value env q +ℤ sum_value env c *ℤ (sum_value env p +ℤ negsuc 0 *ℤ sum_value env q))
selected-value env c p q =
    let d = sum_value env p +ℤ negsuc 0 *ℤ sum_value env q in
    then_some (λ x. sum_value env x ≡ d) (λ r. sum_value env r ≡ sum_value env q +ℤ sum_value env c *ℤ d) (subtract p q) _ (subtract-value env p q)
    (λ x e. then_some (λ y. sum_value env y ≡ sum_value env c *ℤ sum_value env x) (λ r. sum_value env r ≡ sum_value env q +ℤ sum_value env c *ℤ d) (product c x) _ (product-value env c x)
    (λ y f. subst (λ v. Makes env (add q y) v) (ap (λ v. sum_value env q +ℤ v) (f ∙ ap (λ v. sum_value env c *ℤ v) e)) (add-value env q y)))
