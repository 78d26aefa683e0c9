-- The binary digits of a number.
use Rattle.std.proofs.Common.{◌≡◌, ℕ, suc, ◌+◌, ◌*◌, ◌^◌, ◌<◌, ◌≤◌, subst, arith, inl, inr, pow-suc}
use Rattle.std.proofs.lemmas.Bool.{cases_lt}
use lib.Count.{leading_length}
use Rattle.vg_base.proofs.LowBits.{pow-le, below_wider}
use Rattle.vg_terms.specs.Known.{digits}

-- a number needs no more digits than any power of two above it
pub digits-least : (n k : ℕ) → n < 2 ^ k → k ≤ 128 → digits n ≤ k
digits-least n k h most =
    let l = leading_length 128 n (below_wider n k 128 h most) in
    let e : l.0 ≡ digits n = omega (arith, l.1) in
    elim (cases_lt k (digits n)) [
      | inl t ↦
          let p : 2 ^ suc k ≤ 2 ^ digits n = pow-le (suc k) (digits n) (omega arith) in
          let q : 2 ^ digits n ≤ 2 * n + 1 = subst (λ v. 2 ^ v ≤ 2 * n + 1) e (l.3) in
          absurd (omega (arith, pow-suc 2 k))
      | inr t ↦ t
    ]
