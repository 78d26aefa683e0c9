-- Whole numbers: what fits, floors and residues.
use Rattle.std.proofs.Common.{◌≡◌, ℕ, zero, suc, ◌+◌, ◌-◌, ◌*◌, ◌/◌, ◌%◌, ◌^◌, ◌<◌, ◌≤◌, refl, sym, ap, ◌∙◌, subst, arith, inl, inr, true, false}
use Rattle.std.specs.Prelude.{ℤ, pos, negsuc, ◌+ℤ◌, ◌-ℤ◌, ◌*ℤ◌, ◌≤ℤ◌, neg_ℤ, int_lt, int_le, FitsSigned, Option, Some, None, IfSome, if◌then◌else◌}
use Rattle.std.specs.Option.{SomeIff}
use Rattle.std.specs.Ordering.{int_eq}
use Rattle.std.specs.Int.{w128}
use Rattle.std.proofs.lemmas.Int.{ints}
use Rattle.std.proofs.lemmas.Bool.{cases_Bool, cond_both}
use Rattle.std.proofs.lemmas.Nat.{pow_pos, mod_below, div-add-mod', le-div}
use Rattle.std.proofs.Math.Nat.{div-mul-le_self}
use Rattle.vg_base.specs.Trap.{◌>>=◌}
use Rattle.vg_base.specs.Bits.{signed_at}
use Rattle.vg_base.specs.Number.{floor_shift, residue}
use Rattle.vg_base.proofs.LowBits.{pow-le}
use Rattle.vg_sums.specs.Arithmetic.{fit, is_small}

-- ---- what fits

small_kept : (z : ℤ) → FitsSigned w128 z → is_small z ≡ true
small_kept z f = grind (arith, ints)

large_left : (z : ℤ) → (FitsSigned w128 z → ⊥) → is_small z ≡ false
large_left z f = grind (arith, ints)

pub fit-is : (r : Option ℤ) (z : ℤ) → SomeIff r (FitsSigned w128 z) z → r ≡ fit z
unfolding fit
fit-is (Some x) z h = rw (small_kept z h.0, h.1) refl
fit-is None z h = rw (large_left z h) refl

pub fit-at : (r : Option ℤ) (z y : ℤ) → z ≡ y → SomeIff r (FitsSigned w128 z) z → r ≡ fit y
fit-at r z y e h = subst (λ v. r ≡ fit v) e (fit-is r z h)

pub below_half : (k : ℕ) → k ≤ 126 → 2 ^ k < 2 ^ 127
below_half k h = omega (arith, pow-le k 126 h)

pub power_rest : (k : ℕ) → k ≤ 126 → (1 * 2 ^ k) % 2 ^ 128 ≡ 2 ^ k
power_rest k h = omega (arith, below_half k h)

-- what fits is itself
pub fit-same : (z : ℤ) → IfSome (fit z) (λ y. y ≡ z)
unfolding fit
fit-same z = cond_both (is_small z) (Some z) None (λ r. IfSome r (λ y. y ≡ z)) (λ t. refl) (λ t. tt)

-- ---- steps

-- what holds of what a step gives, from what holds of what the step before gave
pub then_some : {A B : Type 0} (P : A → Type 0) (Q : B → Type 0) (m : Option A) (f : A → Option B) → IfSome m P → ((x : A) → P x → IfSome (f x) Q) → IfSome (m >>= f) Q
then_some P Q (Some x) f h g = g x h
then_some P Q None f h g = tt

-- what holds of what a step gives, from what else holds of it
pub map_some : {A : Type 0} (P Q : A → Type 0) (m : Option A) → IfSome m P → ((x : A) → P x → Q x) → IfSome m Q
map_some P Q (Some x) h g = g x h
map_some P Q None h g = tt

-- ---- floors

pub floor-split : (z : ℤ) (k : ℕ) → floor_shift z k *ℤ pos (2 ^ k) +ℤ pos (residue k z) ≡ z
floor-split (pos n) k = ap pos (div-add-mod' n (2 ^ k))
floor-split (negsuc n) k = omega (arith, ints, div-add-mod' n (2 ^ k), mod_below n (2 ^ k) (pow_pos k))

quotients : (a x k : ℕ) → a ≤ x → a / 2 ^ k ≤ x / 2 ^ k
quotients a x k h = le-div (a / 2 ^ k) x (2 ^ k) (pow_pos k) (omega (arith, div-mul-le_self a (2 ^ k)))

pub floor_shift-le : (a x : ℤ) (k : ℕ) → a ≤ℤ x → floor_shift a k ≤ℤ floor_shift x k
floor_shift-le (pos a) (pos x) k p =
    let h : a ≤ x = omega (arith, ints) in
    omega (arith, ints, quotients a x k h)
floor_shift-le (pos a) (negsuc x) k p = absurd (omega (arith, ints))
floor_shift-le (negsuc a) (pos x) k p = omega (arith, ints)
floor_shift-le (negsuc a) (negsuc x) k p =
    let h : x ≤ a = omega (arith, ints) in
    omega (arith, ints, quotients x a k h)

-- a floor between two that are one is that one
pub floor-shown : (a b z : ℤ) (k : ℕ) → a ≤ℤ z → z ≤ℤ b → int_eq (floor_shift a k) (floor_shift b k) ≡ true → floor_shift a k ≡ floor_shift z k
floor-shown a b z k p q e =
    let s : floor_shift a k ≡ floor_shift b k = grind (arith, ints) in
    let l = floor_shift-le a z k p in
    let u : floor_shift z k ≤ℤ floor_shift a k = subst (λ v. floor_shift z k ≤ℤ v) (sym s) (floor_shift-le z b k q) in
    omega (arith, ints)
