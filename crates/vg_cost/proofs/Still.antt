-- Numbers that are not marked, eight at a time.
use Rattle.std.proofs.Common.{◌≡◌, ℕ, zero, suc, ◌+◌, ◌-◌, ◌<◌, ◌≤◌, Bool, true, false, List, get_or, arith, refl, subst, sym}
use Rattle.std.specs.Prelude.{◌||◌, not}
use Rattle.vg_cost.proofs.Moving.{differ}

neither : (a b : Bool) → a || b ≡ false → (a ≡ false) × (b ≡ false)
neither true b e = differ e
neither false b e = (refl, e)

none-of : (a : Bool) → not a ≡ true → a ≡ false
none-of true e = sym e
none-of false e = refl

module _ (xs : List Bool) (end : ℕ) where
  abbrev pub at : ℕ → Bool
  at k = get_or xs (end - k) false

  still-at : not ((((at 1 || at 2) || at 3) || at 4) || (((at 5 || at 6) || at 7) || at 8)) ≡ true
      → (k : ℕ) → k < 8 → get_or xs (end - (k + 1)) false ≡ false
  still-at t k l =
      let a = neither (((at 1 || at 2) || at 3) || at 4) (((at 5 || at 6) || at 7) || at 8) (none-of _ t) in
      let b = neither ((at 1 || at 2) || at 3) (at 4) a.0 in
      let c = neither (at 1 || at 2) (at 3) b.0 in
      let d = neither (at 1) (at 2) c.0 in
      let e = neither ((at 5 || at 6) || at 7) (at 8) a.1 in
      let f = neither (at 5 || at 6) (at 7) e.0 in
      let g = neither (at 5) (at 6) f.0 in
      each d.0 d.1 c.1 b.1 g.0 g.1 f.1 e.1 k l
    where
      each : at 1 ≡ false → at 2 ≡ false → at 3 ≡ false → at 4 ≡ false → at 5 ≡ false → at 6 ≡ false → at 7 ≡ false → at 8 ≡ false
          → (k : ℕ) → k < 8 → get_or xs (end - (k + 1)) false ≡ false
      each a b c d e f g h zero l = a
      each a b c d e f g h (suc zero) l = b
      each a b c d e f g h (suc (suc zero)) l = c
      each a b c d e f g h (suc (suc (suc zero))) l = d
      each a b c d e f g h (suc (suc (suc (suc zero)))) l = e
      each a b c d e f g h (suc (suc (suc (suc (suc zero))))) l = f
      each a b c d e f g h (suc (suc (suc (suc (suc (suc zero)))))) l = g
      each a b c d e f g h (suc (suc (suc (suc (suc (suc (suc zero))))))) l = h
      each a b c d e f g h (suc (suc (suc (suc (suc (suc (suc (suc k)))))))) l = absurd (omega (arith, l))

  pub eight_still : not ((((at 1 || at 2) || at 3) || at 4) || (((at 5 || at 6) || at 7) || at 8)) ≡ true
      → (v : ℕ) → end ≤ v + 8 → v < end → get_or xs v false ≡ false
  eight_still t v lo hi =
      let k = end - 1 - v in
      let same : end - (k + 1) ≡ v = omega (arith, hi) in
      subst (λ w. get_or xs w false ≡ false) same (still-at t k (omega (arith, lo, hi)))
