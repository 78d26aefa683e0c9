-- Laws of the bits of a number.
use Rattle.std.proofs.Common.{◌≡◌, ℕ, zero, suc, ◌+◌, ◌/◌, ◌%◌, ◌^◌, length, refl, ap, arith}
use Rattle.std.proofs.lemmas.Nat.{mod-pow-add}
use Rattle.vg_base.specs.Bits.{bits, num, signed, signed_at}

pub length-bits : (w n : ℕ) → length (bits w n) ≡ w
unfolding bits
length-bits zero n = refl
length-bits (suc w) n = ap suc (length-bits w (n / 2))

pub num-bits : (w n : ℕ) → num (bits w n) ≡ n % 2 ^ w
unfolding bits num
num-bits zero n = omega arith
num-bits (suc w) n =
    let width : n % 2 ^ suc w ≡ n % 2 ^ (w + 1) = ap (λ (k : ℕ). n % 2 ^ k) (omega arith) in
    omega (arith, num-bits w (n / 2), width, mod-pow-add n w 1)

-- what a list of a number's bits reads as
pub signed-bits : (w n : ℕ) → signed (bits w n) ≡ signed_at w (n % 2 ^ w)
signed-bits w n = (λ i. signed_at (length-bits w n i) (num-bits w n i))
