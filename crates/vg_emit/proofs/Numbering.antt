-- Numbers from one on.
use Rattle.std.proofs.Common.{◌≡◌, ℕ, suc, ◌+◌, ◌-◌, ◌<◌, ◌∷◌, ap, arith}
use Rattle.vg_shapes.specs.Order.{numbers_from}

pub next-number : (u e : ℕ) → u < e → numbers_from u (e - u) ≡ u ∷ numbers_from (u + 1) (e - (u + 1))
next-number u e h =
    let more : e - u ≡ suc (e - (u + 1)) = omega arith in
    ap (numbers_from u) more
