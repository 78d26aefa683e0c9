-- Numbers as bytes.
use Rattle.std.proofs.Common.{◌≡◌, ℕ, zero, suc, ◌+◌, ◌-◌, ◌*◌, ◌/◌, ◌%◌, ◌^◌, ◌<◌, ◌≤◌, List, ◌++◌, length, take, drop, refl, ap, arith, append_assoc}
use Rattle.std.proofs.Math.Nat.{pow-le-pow_right}
use Rattle.std.proofs.lemmas.List.{length-drop, length-take}
use Rattle.std.proofs.Math.ListN.{set}
use Rattle.std.proofs.Math.Seq.{take-suc-set}
use Rattle.vg_base.specs.Bits.{bytes}

pub length-bytes : (k n : ℕ) → length (bytes k n) ≡ k
unfolding bytes
length-bytes zero n = refl
length-bytes (suc k) n = ap suc (length-bytes k (n / 256))

-- one byte more below a number of at most seven bytes
pub byte_below : (n r : ℕ) → n ≤ 7 → r < 256 ^ n → 256 * r + 255 < 2 ^ 64
byte_below n r h below = let most : 256 ^ n ≤ 256 ^ 7 = pow-le-pow_right (omega arith) h in omega arith

-- what follows the first of at most eight bytes
pub shorter : (from : List ℕ) → length from ≤ 8 → length (take (length from - 1) (drop 1 from)) ≤ 7
shorter from h = simp (length-take, length-drop) (omega arith)

-- one byte written
pub written_more : (to : List ℕ) (i rest : ℕ) → i < length to → take (i + 1) (set to i (rest % 256)) ++ bytes (length to - (i + 1)) (rest / 256) ≡ take i to ++ bytes (length to - i) rest
unfolding bytes
written_more to i rest h =
    let left : length to - i ≡ suc (length to - (i + 1)) = omega arith in
    let next : i + 1 ≡ suc i = omega arith in
    rw (left, next, take-suc-set to i (rest % 256) h) (append_assoc (take i to) _ _)
