-- Parts of lists of bits, whatever their length, and registers of bits.
use Rattle.std.proofs.Common.{◌≡◌, ℕ, zero, suc, ◌+◌, ◌*◌, ◌/◌, ◌%◌, ◌^◌, ◌<◌, ◌≤◌, List, [], ◌∷◌, take, drop, get_or, set, refl, sym, ap, ◌∙◌, arith}
use Rattle.std.proofs.Math.Nat.{div-eq_of_lt, mod-eq_of_lt, pow-le-pow_right}
use Rattle.std.specs.Prelude.{false, nat_eq}
use Rattle.std.proofs.lemmas.Nat.{pow_pos, shr-shr}
use Rattle.vg_base.specs.Bits.{bits, num}
use Rattle.vg_base.proofs.Bits.{num-bits}
use Rattle.vg_bits.specs.BitList.{IsBits}
use Rattle.vg_bits.specs.Range.{range, replaced}
use Rattle.vg_bits.proofs.BitLists.{IsBits-append, IsBits-drop, IsBits-take}
use Rattle.vg_shapes.specs.Registers.{AllBits}

num-drop : (low : ℕ) (l : List ℕ) → IsBits l → num (drop low l) ≡ num l / 2 ^ low
unfolding num
num-drop zero l p = let same : num l ≡ num l / 2 ^ 0 = omega arith in same
num-drop (suc low) [] p = let none : 0 ≡ 0 / 2 ^ suc low = omega arith in none
num-drop (suc low) (b ∷ bs) p =
    let half : num bs ≡ (b + 2 * num bs) / 2 = omega (arith, p.0) in
    num-drop low bs p.1 ∙ ap (λ n. n / 2 ^ low) half ∙ shr-shr (b + 2 * num bs) 1 low
    ∙ ap (λ (k : ℕ). (b + 2 * num bs) / 2 ^ k) (omega arith)

taken : (w : ℕ) (l : List ℕ) → IsBits l → num (take w l) ≡ num (bits w (num l))
unfolding num bits
taken zero l p = refl
taken (suc w) [] p = sym (num-bits (suc w) 0 ∙ mod-eq_of_lt (pow_pos (suc w)))
taken (suc w) (b ∷ bs) p =
    let bit : b ≡ (b + 2 * num bs) % 2 = omega (arith, p.0) in
    let rest : num bs ≡ (b + 2 * num bs) / 2 = omega (arith, p.0) in
    ap (λ n. b + 2 * n) (taken w bs p.1) ∙ (λ i. bit i + 2 * num (bits w (rest i)))

num-take : (w : ℕ) (l : List ℕ) → IsBits l → num (take w l) ≡ num l % 2 ^ w
num-take w l p = taken w l p ∙ num-bits w (num l)

pub num-part : (low w : ℕ) (l : List ℕ) → IsBits l → num (range low w l) ≡ num l / 2 ^ low % 2 ^ w
num-part low w l p =
    num-take w (drop low l) (IsBits-drop low l p) ∙ ap (λ n. n % 2 ^ w) (num-drop low l p)

-- a number of 16 bits has no bit at a later place
pub no_place : (n place : ℕ) → n < 2 ^ 16 → 16 ≤ place → nat_eq (n / 2 ^ place % 2) 1 ≡ false
no_place n place few far =
    let most : 2 ^ 16 ≤ 2 ^ place = pow-le-pow_right {n = 2} (omega arith) far in
    let none : n / 2 ^ place ≡ 0 = div-eq_of_lt (omega (arith, few, most)) in
    ap (λ k. nat_eq (k % 2) 1) none

-- ---- registers

pub at-bits : (ls : List (List ℕ)) (r : ℕ) → AllBits ls → IsBits (get_or ls r [])
at-bits [] r h = tt
at-bits (l ∷ ls) zero h = h.0
at-bits (l ∷ ls) (suc r) h = at-bits ls r h.1

pub set-bits : (ls : List (List ℕ)) (r : ℕ) (new : List ℕ) → AllBits ls → IsBits new → AllBits (set ls r new)
set-bits [] r new h p = tt
set-bits (l ∷ ls) zero new h p = (p, h.1)
set-bits (l ∷ ls) (suc r) new h p = (h.0, set-bits ls r new h.1 p)

pub replaced-bits : (low : ℕ) (new l : List ℕ) → IsBits new → IsBits l → IsBits (replaced low new l)
replaced-bits low new l p q =
    IsBits-append _ _ (IsBits-take low l q) (IsBits-append _ _ p (IsBits-drop _ l q))
