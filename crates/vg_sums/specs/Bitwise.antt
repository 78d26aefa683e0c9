-- Operations on the bits of two numbers that stand side by side in one.
use Rattle.std.specs.Prelude.{ℕ, ◌/◌, ◌%◌, ◌^◌, ℤ, pos, negsuc}
use Rattle.vg_terms.specs.declared.term.TwoOp.{TwoOp}
use Rattle.vg_terms.specs.Value.{two_value}

-- the lowest w bits of an operation on the number above the lowest w bits and that of the lowest w bits
abbrev pub bitwise_value : TwoOp → ℕ → ℤ → ℤ
bitwise_value op w (pos n) = pos (two_value op w w (n / 2 ^ w) (n % 2 ^ w) % 2 ^ w)
bitwise_value op w (negsuc n) = pos 0
