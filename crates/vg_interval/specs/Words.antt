-- The words that expressions become: one table, the operators in the terms of `vg_terms`. A word
-- here has 128 bits unless it is said to have one.
use Rattle.std.specs.Prelude.{ℕ, ◌^◌, min, ℤ, pos, negsuc, Bool, true, false, nat_eq, if◌then◌else◌}
use Rattle.vg_base.specs.Width.{bits_of}
use Rattle.vg_terms.specs.declared.term.OneOp.TheVariants.{Zext, Sext, Trunc, Ashr}
use Rattle.vg_terms.specs.declared.term.TwoOp.TheVariants as terms
use Rattle.vg_base.specs.Number.{residue, least_signed, greatest_signed}
use Rattle.vg_pseudo.specs.declared.operators.UnaryOp.{UnaryOp}
use Rattle.vg_pseudo.specs.declared.operators.UnaryOp.TheVariants.{Not, Negate, Absolute, Signed, SignExtend, ZeroExtend, Saturate, SaturateUnsigned, Truncate}
use Rattle.vg_pseudo.specs.declared.operators.BinaryOp.{BinaryOp}
use Rattle.vg_pseudo.specs.declared.operators.BinaryOp.TheVariants.{Or, Xor, And, Equal, NotEqual, Less, LessOrEqual, Greater, GreaterOrEqual, ShiftLeft, ShiftRight, Add, Subtract, Multiply, Minimum, Maximum}
use Rattle.vg_pseudo.specs.Whole.{greatest_unsigned}
use Rattle.vg_script.specs.Script.{Word, constant, one, two, absolute, shift_left, shift_right}

-- a whole number
abbrev pub number : ℤ → Word
number z = constant 128 (residue 128 z)

-- a word of w bits at 128 bits
abbrev pub extended : Bool → ℕ → Word → Word
extended is_signed w x =
    if nat_eq w 128 then x else one (if is_signed then Sext else Zext) 128 0 x

-- the low bits of a word, read as signed or not
abbrev pub low_extended : Bool → ℕ → Word → Word
low_extended is_signed w x = extended is_signed w (one Trunc w 0 x)

abbrev pub clamped_word : ℤ → ℤ → Word → Word
clamped_word least greatest x =
    two terms.Smin 128 (two terms.Smax 128 x (number least)) (number greatest)

abbrev pub unary_word : UnaryOp → Word → Word
unary_word Not x = two terms.Xor 128 x (number (negsuc 0))
unary_word Negate x = two terms.Mul 128 x (number (negsuc 0))
unary_word Absolute x = absolute x
unary_word Signed x = x
unary_word (SignExtend w) x = low_extended true (bits_of w) x
unary_word (ZeroExtend w) x = low_extended false (bits_of w) x
unary_word (Saturate w) x = clamped_word (least_signed (bits_of w)) (greatest_signed (bits_of w)) x
unary_word (SaturateUnsigned w) x = clamped_word (pos 0) (greatest_unsigned (bits_of w)) x
unary_word (Truncate w) x = low_extended false (bits_of w) x

-- the other bit
abbrev pub opposite : Word → Word
opposite x = two terms.Xor 1 x (constant 1 1)

-- a comparison as one bit
abbrev pub comparison : BinaryOp → Word → Word → Word
comparison Equal x y = two terms.Eq 1 x y
comparison NotEqual x y = opposite (two terms.Eq 1 x y)
comparison Less x y = two terms.Slt 1 x y
comparison LessOrEqual x y = opposite (two terms.Slt 1 y x)
comparison Greater x y = two terms.Slt 1 y x
comparison GreaterOrEqual x y = opposite (two terms.Slt 1 x y)
comparison op x y = constant 1 0

abbrev pub binary_word : BinaryOp → Word → Word → Word
binary_word Or x y = two terms.Or 128 x y
binary_word Xor x y = two terms.Xor 128 x y
binary_word And x y = two terms.And 128 x y
binary_word Add x y = two terms.Add 128 x y
binary_word Subtract x y = two terms.Add 128 x (two terms.Mul 128 y (number (negsuc 0)))
binary_word Multiply x y = two terms.Mul 128 x y
binary_word Minimum x y = two terms.Smin 128 x y
binary_word Maximum x y = two terms.Smax 128 x y
binary_word ShiftLeft x y = shift_left x y
binary_word ShiftRight x y = shift_right x y
binary_word op x y = extended false 1 (comparison op x y)

-- a shift by a constant number of places
abbrev pub left_by : ℕ → Word → Word
left_by n x = two terms.Mul 128 x (constant 128 (2 ^ n))

abbrev pub right_by : ℕ → Word → Word
right_by n x = one Ashr 128 (min n 127) x

-- whether a number is not 0, as one bit
abbrev pub is_set : Word → Word
is_set x = two terms.Ult 1 (constant 128 0) x
