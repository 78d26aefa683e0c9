-- Division by 0.
use Rattle.std.proofs.Common.{◌≡◌, ℕ, ◌%◌, ap, ◌∙◌}
use Rattle.std.proofs.Math.Nat.{mod-zero}

pub left_by_none : (n m : ℕ) → m ≡ 0 → n % m ≡ n
left_by_none n m e = ap (λ k. n % k) e ∙ mod-zero n
