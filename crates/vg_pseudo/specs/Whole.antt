-- Exact whole numbers, and what the operators and functions of operation texts make of them.
use Rattle.std.specs.Prelude.{ℕ, ◌-◌, ◌^◌, ℤ, pos, negsuc, ◌+ℤ◌, ◌*ℤ◌, Bool, not, int_lt, nat_le, bit_and, bit_or, bit_xor, if◌then◌else◌}
use Rattle.std.specs.Ordering.{int_eq}
use Rattle.vg_base.specs.Bits.{signed_at}
use Rattle.vg_base.specs.Width.{bits_of}
use Rattle.vg_base.specs.Number.{residue, floor_shift, least_signed, greatest_signed}
use Rattle.vg_pseudo.specs.declared.operators.UnaryOp.{UnaryOp}
use Rattle.vg_pseudo.specs.declared.operators.UnaryOp.TheVariants.{Not, Negate, Absolute, Signed, SignExtend, ZeroExtend, Saturate, SaturateUnsigned, Truncate}
use Rattle.vg_pseudo.specs.declared.operators.BinaryOp.{BinaryOp}
use Rattle.vg_pseudo.specs.declared.operators.BinaryOp.TheVariants.{Or, Xor, And, Equal, NotEqual, Less, LessOrEqual, Greater, GreaterOrEqual, ShiftLeft, ShiftRight, Add, Subtract, Multiply, Minimum, Maximum}

-- a whole number as an amount, a place or a count; 0 where it is negative
abbrev pub natural : ℤ → ℕ
natural (pos n) = n
natural (negsuc n) = 0

abbrev pub negative : ℤ → ℤ
negative z = z *ℤ negsuc 0

-- -1 - z: each bit of the infinite two's complement is the other one
abbrev pub complement : ℤ → ℤ
complement (pos n) = negsuc n
complement (negsuc n) = pos n

abbrev pub lesser : ℤ → ℤ → ℤ
lesser x y = if int_lt x y then x else y

abbrev pub greater : ℤ → ℤ → ℤ
greater x y = if int_lt x y then y else x

-- no less than the first and no more than the second
abbrev pub clamped : ℤ → ℤ → ℤ → ℤ
clamped least greatest z = lesser (greater z least) greatest

-- the greatest number of n unsigned bits
abbrev pub greatest_unsigned : ℕ → ℤ
greatest_unsigned n = pos (2 ^ n - 1)

-- AND, OR and XOR bit by bit on infinite two's complement, in which the bits of `negsuc n` are the
-- others than those of n
abbrev pub both_bits : ℤ → ℤ → ℤ
both_bits (pos a) (pos b) = pos (bit_and a b)
both_bits (pos a) (negsuc b) = pos (a - bit_and a b)
both_bits (negsuc a) (pos b) = pos (b - bit_and a b)
both_bits (negsuc a) (negsuc b) = negsuc (bit_or a b)

abbrev pub either_bits : ℤ → ℤ → ℤ
either_bits (pos a) (pos b) = pos (bit_or a b)
either_bits (pos a) (negsuc b) = negsuc (b - bit_and a b)
either_bits (negsuc a) (pos b) = negsuc (a - bit_and a b)
either_bits (negsuc a) (negsuc b) = negsuc (bit_and a b)

abbrev pub unequal_bits : ℤ → ℤ → ℤ
unequal_bits (pos a) (pos b) = pos (bit_xor a b)
unequal_bits (pos a) (negsuc b) = negsuc (bit_xor a b)
unequal_bits (negsuc a) (pos b) = negsuc (bit_xor a b)
unequal_bits (negsuc a) (negsuc b) = pos (bit_xor a b)

-- 1 where it holds, else 0
abbrev pub truth : Bool → ℤ
truth holds = if holds then pos 1 else pos 0

-- x * 2 ^ n, for n up to 127; by more places no bit is left
abbrev pub shifted_left : ℤ → ℕ → ℤ
shifted_left x n = if nat_le n 127 then x *ℤ pos (2 ^ n) else pos 0

-- what an operator or a function of one operand makes of a number
abbrev pub unary_result : UnaryOp → ℤ → ℤ
unary_result Not x = complement x
unary_result Negate x = negative x
unary_result Absolute x = if int_lt x (pos 0) then negative x else x
unary_result Signed x = x
unary_result (SignExtend w) x = signed_at (bits_of w) (residue (bits_of w) x)
unary_result (ZeroExtend w) x = pos (residue (bits_of w) x)
unary_result (Saturate w) x = clamped (least_signed (bits_of w)) (greatest_signed (bits_of w)) x
unary_result (SaturateUnsigned w) x = clamped (pos 0) (greatest_unsigned (bits_of w)) x
unary_result (Truncate w) x = pos (residue (bits_of w) x)

-- what an operator or a function of two operands makes of two numbers
abbrev pub binary_result : BinaryOp → ℤ → ℤ → ℤ
binary_result Or x y = either_bits x y
binary_result Xor x y = unequal_bits x y
binary_result And x y = both_bits x y
binary_result Equal x y = truth (int_eq x y)
binary_result NotEqual x y = truth (not (int_eq x y))
binary_result Less x y = truth (int_lt x y)
binary_result LessOrEqual x y = truth (not (int_lt y x))
binary_result Greater x y = truth (int_lt y x)
binary_result GreaterOrEqual x y = truth (not (int_lt x y))
binary_result ShiftLeft x y = shifted_left x (natural y)
binary_result ShiftRight x y = floor_shift x (natural y)
binary_result Add x y = x +ℤ y
binary_result Subtract x y = x +ℤ negative y
binary_result Multiply x y = x *ℤ y
binary_result Minimum x y = lesser x y
binary_result Maximum x y = greater x y
