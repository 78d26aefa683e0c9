-- Shifts by the width or more.
use Rattle.std.proofs.Common.{◌≡◌, ℕ, ◌+◌, ◌-◌, ◌*◌, ◌/◌, ◌^◌, ◌<◌, ◌≤◌, refl, ap, ◌∙◌, inl, inr, arith}
use Rattle.std.specs.Prelude.{nat_lt}
use Rattle.std.proofs.Math.Nat.{pow-le-pow_right}
use Rattle.std.proofs.lemmas.Bool.{cases_Bool, ltb-true, ltb-false}
use Rattle.std.proofs.lemmas.Nat.{pow_pos, pow-add, div_below, mod_below, mod_low}
use Rattle.vg_scalar.specs.declared.shift.Shift.TheVariants.{Shl, Lshr, Ashr}
use Rattle.vg_scalar.specs.Scalar.{low, shift_result}

none_left : (n k : ℕ) → n < 2 ^ k → n / 2 ^ k ≡ 0
none_left n k h = let below = div_below n (2 ^ k) 1 (pow_pos k) (omega arith) in omega arith

wider : (j k : ℕ) → j ≤ k → 2 ^ j ≤ 2 ^ k
wider j k h = pow-le-pow_right (omega arith) h

pub shl_past : (w k a : ℕ) → w ≤ k → shift_result Shl w k a ≡ 0
shl_past w k a h =
    let apart : 2 ^ k ≡ 2 ^ (k - w) * 2 ^ w = ap (λ (n : ℕ). 2 ^ n) (let n : k ≡ k - w + w = omega arith in n) ∙ pow-add 2 (k - w) w in
    let whole : a * 2 ^ k ≡ a * 2 ^ (k - w) * 2 ^ w + 0 = rw apart (omega arith) in
    rw whole (mod_low (a * 2 ^ (k - w)) w 0 (pow_pos w))

pub lshr_past : (w k a : ℕ) → w ≤ k → shift_result Lshr w k a ≡ 0
lshr_past w k a h = none_left (low w a) k (omega (arith, wider w k h, mod_below a (2 ^ w) (pow_pos w)))

-- half of the numbers of a width, each of them below 2 to the places that are moved
pub ashr_past : (w k a : ℕ) → 0 < w → w ≤ k → shift_result Ashr w k a ≡ shift_result Ashr w (w - 1) a
ashr_past w k a some h =
    let twice : 2 ^ w ≡ 2 * 2 ^ (w - 1) = ap (λ (n : ℕ). 2 ^ n) (let n : w ≡ 1 + (w - 1) = omega arith in n) ∙ pow-add 2 1 (w - 1) in
    let more = wider (w - 1) k (omega arith) in
    let below = mod_below a (2 ^ w) (pow_pos w) in
    elim (cases_Bool (nat_lt (low w a) (2 ^ (w - 1)))) [
      | inl plus ↦
          let small = ltb-true (low w a) (2 ^ (w - 1)) plus in
          rw (plus, none_left (low w a) k (omega arith), none_left (low w a) (w - 1) small) refl
      | inr minus ↦
          let large = ltb-false (low w a) (2 ^ (w - 1)) minus in
          rw (minus, none_left (2 ^ w - 1 - low w a) k (omega arith), none_left (2 ^ w - 1 - low w a) (w - 1) (omega arith)) refl
    ]
