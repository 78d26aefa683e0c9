-- A number that was computed where it fits 128 signed bits is what `fit` gives.
use Rattle.std.proofs.Common.{◌≡◌, ℕ, zero, suc, ◌-◌, ◌*◌, ◌/◌, ◌%◌, ◌<◌, ◌≤◌, ◌^◌, refl, sym, subst, arith, to_z, of_z, inl, inr, Bool, true, false}
use Rattle.std.specs.Prelude.{ℤ, pos, negsuc, ◌+ℤ◌, ◌-ℤ◌, ◌*ℤ◌, neg_ℤ, FitsSigned, Option, Some, None, if◌then◌else◌}
use Rattle.std.specs.Option.{SomeIff}
use Rattle.std.specs.Int.{w128}
use Rattle.std.proofs.lemmas.Int.{ints, to_z-of_z}
use Rattle.vg_base.proofs.LowBits.{pow-le}
use Rattle.vg_base.specs.Number.{residue}
use Rattle.vg_pseudo.specs.Whole.{complement, greater, negative}
use Rattle.vg_interval.specs.Interval.{between, is_small, fit, fitting}
use Rattle.std.proofs.lemmas.Bool.{cases_Bool, lt-ltb}
use Rattle.std.proofs.Math.Nat.{mod-eq_of_lt, div-eq_of_lt}
use Rattle.std.proofs.lemmas.Nat.{mod_below, pow_pos}
use Rattle.vg_base.specs.Bits.{signed_at}
use Rattle.vg_base.proofs.Signed.{residue-signed}
use Rattle.vg_interval.specs.Views.{slice_number}
use Rattle.vg_interval.proofs.Intervals.{Fits, small-fits, fit-some, greater-fits}

small_kept : (z : ℤ) → FitsSigned w128 z → is_small z ≡ true
small_kept z f = grind (arith, ints)

large_left : (z : ℤ) → (FitsSigned w128 z → ⊥) → is_small z ≡ false
large_left z f = grind (arith, ints)

pub fit-is : (r : Option ℤ) (z : ℤ) → SomeIff r (FitsSigned w128 z) z → r ≡ fit z
unfolding fit
fit-is (Some x) z h = rw (small_kept z h.0, h.1) refl
fit-is None z h = rw (large_left z h) refl

pub fit-at : (r : Option ℤ) (z y : ℤ) → z ≡ y → SomeIff r (FitsSigned w128 z) z → r ≡ fit y
fit-at r z y e h = subst (λ v. r ≡ fit v) e (fit-is r z h)

pub negative_is : (x : ℤ) → neg_ℤ x ≡ negative x
negative_is x = omega (arith, ints)

pub difference_is : (x y : ℤ) → (x -ℤ y) ≡ x +ℤ negative y
difference_is x y = omega (arith, ints)

pub below_half : (k : ℕ) → k ≤ 126 → 2 ^ k < 2 ^ 127
below_half k h = omega (arith, pow-le k 126 h)

pub power_rest : (k : ℕ) → k ≤ 126 → (1 * 2 ^ k) % 2 ^ 128 ≡ 2 ^ k
power_rest k h = omega (arith, below_half k h)

at_127 : (k : ℕ) → 127 ≤ k → k ≤ 127 → k ≡ 127
at_127 k h l = omega arith

number_of_bits : (x : ℤ) (n : ℕ) → FitsSigned w128 x → of_z w128 x ≡ n → x ≡ to_z w128 n
number_of_bits x n f e = sym (subst (λ v. to_z w128 v ≡ x) e (to_z-of_z w128 x f))

pub scaled_zero : (x : ℤ) (k : ℕ) → FitsSigned w128 x → 127 ≤ k → k ≤ 127 → of_z w128 x ≡ 0 → Some (pos 0) ≡ fit (x *ℤ pos (2 ^ k))
unfolding fit
scaled_zero x k f h l e = rw (number_of_bits x 0 f e, at_127 k h l) refl

pub scaled_least : (x : ℤ) (k : ℕ) → FitsSigned w128 x → 127 ≤ k → k ≤ 127 → of_z w128 x ≡ 2 ^ 128 - 1
    → Some (negsuc (2 ^ 127 - 1)) ≡ fit (x *ℤ pos (2 ^ k))
unfolding fit
scaled_least x k f h l e = rw (number_of_bits x (2 ^ 128 - 1) f e, at_127 k h l) refl

scaled_out : (x : ℤ) → (x ≡ pos 0 → ⊥) → (x ≡ negsuc 0 → ⊥) → is_small (x *ℤ pos (2 ^ 127)) ≡ false
scaled_out (pos zero) h k = absurd (h refl)
scaled_out (pos (suc n)) h k = grind (arith, ints)
scaled_out (negsuc zero) h k = absurd (k refl)
scaled_out (negsuc (suc n)) h k = grind (arith, ints)

pub scaled_none : (x : ℤ) (k : ℕ) → 127 ≤ k → k ≤ 127 → (of_z w128 x ≡ 0 → ⊥) → (of_z w128 x ≡ 2 ^ 128 - 1 → ⊥)
    → None ≡ fit (x *ℤ pos (2 ^ k))
unfolding fit
scaled_none x k h l p q = rw (at_127 k h l, scaled_out x (λ e. p (rw e refl)) (λ e. q (rw e refl))) refl

-- ---- ends of intervals

fits_kept : (z : ℤ) → Fits z → is_small z ≡ true
fits_kept (pos n) f = grind (arith, ints, f.small)
fits_kept (negsuc n) f = grind (arith, ints, f.small)

pub fit_kept : (z : ℤ) → Fits z → fit z ≡ Some z
unfolding fit
fit_kept z f = rw (fits_kept z f) refl

pub fits_range : (z : ℤ) → FitsSigned w128 z → Fits z
fits_range z f = small-fits z (small_kept z f)

complement_fits : (z : ℤ) → Fits z → Fits (complement z)
complement_fits (pos n) f = record { small = f.small }
complement_fits (negsuc n) f = record { small = f.small }

pub fitting_kept : (a b : ℤ) → Fits a → Fits b → Some (between a b) ≡ fitting a b
fitting_kept a b f g = rw (fit_kept a f, fit_kept b g) refl

pub complements : (a b : ℤ) → FitsSigned w128 a → FitsSigned w128 b
    → Some (between (complement b) (complement a)) ≡ fitting (complement b) (complement a)
complements a b f g =
    fitting_kept _ _ (complement_fits b (fits_range b g)) (complement_fits a (fits_range a f))

pub reach_is : (l g v : ℤ) → FitsSigned w128 g → fit (negative l) ≡ Some v → Some (greater v g) ≡ fit (greater (negative l) g)
reach_is l g v f e =
    let p = fit-some (negative l) v e in
    rw (p.0) (sym (fit_kept (greater (negative l) g) (greater-fits _ _ p.1 (fits_range g f))))

none-large : (z : ℤ) → fit z ≡ None → is_small z ≡ false
unfolding fit
none-large z e = elim (cases_Bool (is_small z)) [
  | inl t ↦ absurd (let q : Some z ≡ None = subst (λ b. (if b then Some z else None) ≡ None) t e in cc)
  | inr t ↦ t
]

greater-large : (l g : ℤ) → FitsSigned w128 l → FitsSigned w128 g → is_small (negative l) ≡ false
    → is_small (greater (negative l) g) ≡ false
greater-large l g p q h = grind (arith, ints)

pub reach_none : (l g : ℤ) → FitsSigned w128 l → FitsSigned w128 g → fit (negative l) ≡ None → None ≡ fit (greater (negative l) g)
unfolding fit
reach_none l g p q e = rw (greater-large l g p q (none-large (negative l) e)) refl

pub zero_kept : fit (pos 0) ≡ Some (pos 0)
unfolding fit
zero_kept = refl

-- ---- slices of constants

pub all_low : (w n : ℕ) → n < 2 ^ 128 → 128 ≤ w → n ≡ n % 2 ^ w
all_low w n f h =
    let p : 2 ^ 128 ≤ 2 ^ w = pow-le 128 w h in
    let q : n < 2 ^ w = omega (arith, p) in
    sym (mod-eq_of_lt q)

pub all_signed : (w n : ℕ) → n < 2 ^ 128 → 128 < w → pos n ≡ signed_at w (n % 2 ^ w)
all_signed w n f h =
    let p : 2 ^ 128 ≤ 2 ^ (w - 1) = pow-le 128 (w - 1) (omega arith) in
    let q : n < 2 ^ (w - 1) = omega (arith, p) in
    rw (sym (all_low w n f (omega arith)), lt-ltb n (2 ^ (w - 1)) q) refl

pub none_signed : (w n : ℕ) → w ≡ 0 → pos 0 ≡ signed_at w (n % 2 ^ w)
none_signed w n e = rw e (let q : n % 1 ≡ 0 = omega arith in rw q refl)

pub none_behind : (w n : ℕ) → n < 2 ^ 128 → 128 ≤ w → 0 ≡ n / 2 ^ w
none_behind w n f h =
    let p : 2 ^ 128 ≤ 2 ^ w = pow-le 128 w h in
    sym (div-eq_of_lt (omega (arith, p)))

pub fitted_is : (x : ℤ) → FitsSigned w128 x → Some x ≡ fit x
fitted_is x f = sym (fit_kept x (fits_range x f))

positive : (w n : ℕ) → n % 2 ^ w < 2 ^ w
positive w n = mod_below n (2 ^ w) (pow_pos w)

-- the bits of a slice of a constant, whichever its reading
pub slice_passed : (g : Bool) (w n : ℕ) → residue w (slice_number g w (n % 2 ^ w)) ≡ n % 2 ^ w
slice_passed true w n = residue-signed w (n % 2 ^ w) (positive w n)
slice_passed false w n = mod-eq_of_lt (positive w n)
