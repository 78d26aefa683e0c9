-- What operations make of numbers of a width: the low bits of what they are given count, and results wrap around.
use Rattle.std.specs.Prelude.{ℕ, ◌+◌, ◌-◌, ◌*◌, ◌/◌, ◌%◌, ◌^◌, ℤ, min, max, nat_lt, nat_eq, int_lt, if◌then◌else◌, bit_and, bit_or, bit_xor}
use Rattle.vg_base.specs.Bits.{signed_at}
use Rattle.vg_base.specs.Number.{residue, floor_shift}
use Rattle.vg_scalar.specs.declared.two_op.TwoOp.{TwoOp}
use Rattle.vg_scalar.specs.declared.two_op.TwoOp.TheVariants.{Add, Sub, Mul, And, Or, Xor, Smin, Smax, Umin, Umax}
use Rattle.vg_scalar.specs.declared.shift.Shift.{Shift}
use Rattle.vg_scalar.specs.declared.shift.Shift.TheVariants.{Shl, Lshr, Ashr}
use Rattle.vg_scalar.specs.declared.resize.Resize.{Resize}
use Rattle.vg_scalar.specs.declared.resize.Resize.TheVariants.{Sext, Zext, Trunc}
use Rattle.vg_scalar.specs.declared.comparison.Comparison.{Comparison}
use Rattle.vg_scalar.specs.declared.comparison.Comparison.TheVariants.{Eq, Slt, Ult}

-- the low w bits, read unsigned and read in two's complement
abbrev pub low : ℕ → ℕ → ℕ
low w a = a % 2 ^ w

abbrev pub low_signed : ℕ → ℕ → ℤ
low_signed w a = signed_at w (low w a)

-- an operation on two numbers of w bits
abbrev pub two_result : TwoOp → ℕ → ℕ → ℕ → ℕ
two_result Add w a b = low w (a + b)
two_result Sub w a b = low w (a + (2 ^ w - low w b))
two_result Mul w a b = low w (a * b)
two_result And w a b = bit_and (low w a) (low w b)
two_result Or w a b = bit_or (low w a) (low w b)
two_result Xor w a b = bit_xor (low w a) (low w b)
two_result Smin w a b = if int_lt (low_signed w a) (low_signed w b) then low w a else low w b
two_result Smax w a b = if int_lt (low_signed w a) (low_signed w b) then low w b else low w a
two_result Umin w a b = min (low w a) (low w b)
two_result Umax w a b = max (low w a) (low w b)

-- a number of w bits shifted by k places
abbrev pub shift_result : Shift → ℕ → ℕ → ℕ → ℕ
shift_result Shl w k a = low w (a * 2 ^ k)
shift_result Lshr w k a = low w a / 2 ^ k
shift_result Ashr w k a = residue w (floor_shift (low_signed w a) k)

-- a number of m bits at w bits
abbrev pub resize_result : Resize → ℕ → ℕ → ℕ → ℕ
resize_result Sext w m a = residue w (low_signed m a)
resize_result Zext w m a = low m a
resize_result Trunc w m a = low w a

-- 1 where it holds of two numbers of m bits, else 0
abbrev pub comparison_result : Comparison → ℕ → ℕ → ℕ → ℕ
comparison_result Eq m a b = if nat_eq (low m a) (low m b) then 1 else 0
comparison_result Slt m a b = if int_lt (low_signed m a) (low_signed m b) then 1 else 0
comparison_result Ult m a b = if nat_lt (low m a) (low m b) then 1 else 0

-- the first where the condition, a number of one bit, is 1, else the second
abbrev pub select_result : ℕ → ℕ → ℕ → ℕ
select_result c a b = if nat_eq (low 1 c) 1 then a else b
