-- Digits and the number that they make.
use Rattle.std.proofs.Common.{◌≡◌, ℕ, ◌+◌, ◌*◌, ◌<◌, ◌≤◌, List, [], ◌∷◌, length, get_or, drop, arith, refl, drop-cons, add-one}
use Rattle.std.proofs.Math.ListN.{drop_of_length-le}
use Rattle.std.proofs.Math.Nat.{mul-le-mul_left}
use Rattle.vg_text.specs.Number.{digit_value, value_from}

-- the next digit joins the number so far
pub value_from-step : (base n : ℕ) (ds : List ℕ) (i : ℕ) → i < length ds → value_from base n (drop i ds) ≡ value_from base (n * base + digit_value (get_or ds i 0)) (drop (i + 1) ds)
unfolding value_from
value_from-step base n ds i h = rw (add-one, drop-cons ds i 0) refl

-- digits after a number do not lower it
pub value_from-grows : (base n : ℕ) (ds : List ℕ) → 1 ≤ base → n ≤ value_from base n ds
unfolding value_from
value_from-grows base n [] h = omega arith
value_from-grows base n (d ∷ ds) h =
    omega (arith, value_from-grows base (n * base + digit_value d) ds h, mul-le-mul_left n h)

-- no digit is left
pub value_from-end : (base n : ℕ) (ds : List ℕ) (i : ℕ) → length ds ≤ i → value_from base n (drop i ds) ≡ n
unfolding value_from
value_from-end base n ds i h = rw (drop_of_length-le ds h) refl
