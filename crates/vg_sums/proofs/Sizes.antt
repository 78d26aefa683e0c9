-- The sizes of sums, and what they make when they are counted up to a bound.
use Rattle.std.proofs.Common.{◌≡◌, ℕ, ◌+◌, ◌-◌, ◌*◌, ◌^◌, ◌<◌, ◌≤◌, min, sym, ap, ◌∙◌, subst, arith, inl, inr}
use Rattle.std.specs.Prelude.{nat_le}
use Rattle.std.proofs.lemmas.Bool.{cases_lt, le-leb, lt-leb}
use Rattle.vg_sums.specs.Sums.{Polynomial, number, plus, size}

pub size-some : (p : Polynomial) → 0 < size p
size-some (number z) = omega arith
size-some (plus k i f r) = omega arith

grown : (x y : ℕ) → 0 < y → x ≤ x * y
grown x y h =
    let e : (y - 1) + 1 ≡ y = omega arith in
    subst (λ n. x ≤ x * n) e (omega arith)

counted-small : (a b m : ℕ) → 0 < a → 0 < b → 4096 < m → min a m * min b m ≤ 4096 → a * b ≤ 4096
counted-small a b m p q l h =
    let x : 0 < min a m = omega arith in
    let y : 0 < min b m = omega arith in
    let first : min a m ≡ a = omega (arith, grown (min a m) (min b m) y, h) in
    let flip : min b m * min a m ≤ 4096 = omega (arith, h) in
    let second : min b m ≡ b = omega (arith, grown (min b m) (min a m) x, flip) in
    subst (λ n. a * n ≤ 4096) second (subst (λ n. n * min b m ≤ 4096) first h)

small-counted : (a b m : ℕ) → 0 < a → 0 < b → 4096 < m → a * b ≤ 4096 → min a m * min b m ≤ 4096
small-counted a b m p q l h =
    let first : min a m ≡ a = omega (arith, grown a b q, h) in
    let flip : b * a ≤ 4096 = omega (arith, h) in
    let second : min b m ≡ b = omega (arith, grown b a p, flip) in
    subst (λ n. min a m * n ≤ 4096) (sym second) (subst (λ n. n * b ≤ 4096) (sym first) h)

-- a test of what is counted is one of the sizes
pub counted-same : (a b m : ℕ) → 0 < a → 0 < b → 4096 < m → nat_le (min (min a m * min b m) m) 4096 ≡ nat_le (a * b) 4096
counted-same a b m p q l =
    elim (cases_lt 4096 (a * b)) [
      | inl g ↦ elim (cases_lt 4096 (min a m * min b m)) [
        | inl k ↦ (let j : 4096 < min (min a m * min b m) m = omega arith in lt-leb (min (min a m * min b m) m) 4096 j ∙ sym (lt-leb (a * b) 4096 g))
        | inr k ↦ absurd (omega (arith, counted-small a b m p q l k, g))
      ]
      | inr g ↦ (let k = small-counted a b m p q l g in
          let j : min (min a m * min b m) m ≤ 4096 = omega (arith, k) in
          le-leb (min (min a m * min b m) m) 4096 j ∙ sym (le-leb (a * b) 4096 g))
    ]
