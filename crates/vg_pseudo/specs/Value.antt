-- The value of an expression: an exact whole number, of any size and sign.
use Rattle.std.specs.Prelude.{ℕ, ◌+◌, ◌*◌, ℤ, pos, ◌+ℤ◌, Bool, true, false, List, [], ◌∷◌, Option, Some, None, get_or, if◌then◌else◌}
use Rattle.std.specs.Ordering.{int_eq}
use Rattle.vg_base.specs.Bits.{num, signed_at}
use Rattle.vg_bits.specs.Range.{range}
use Rattle.vg_base.specs.Number.{residue}
use Rattle.vg_pseudo.specs.declared.operators.UnaryOp.{UnaryOp}
use Rattle.vg_pseudo.specs.declared.operators.UnaryOp.TheVariants.{Signed, SignExtend, ZeroExtend}
use Rattle.vg_pseudo.specs.Whole.{natural, negative, unary_result, binary_result}
use Rattle.vg_pseudo.specs.Resolved.{Expr, literal, counter, variable, slice, element, front, unary, binary, choice, call, Arguments, end, more}

-- the bits of each register, lowest first, and the number of each number variable
pub record State : Type 0 where
  pub registers : List (List ℕ)
  pub numbers : List ℤ

-- What an expression can see: what each DEFINE gives for the numbers of its arguments, the turns of
-- the FORs around it, innermost first, and the state.
pub record Sight : Type 0 where
  pub functions : List (List ℕ → ℤ)
  pub turns : List ℤ
  pub state : State

-- the bits of a slice form: how many they are, and the number that they make
pub record Bits : Type 0 where
  pub width : ℕ
  pub number : ℕ

-- read in two's complement, or as an unsigned number
abbrev pub read : Bool → Bits → ℤ
read is_signed b = if is_signed then signed_at b.width b.number else pos b.number

-- so many bits of a register, from a place on
abbrev pub bits_from : State → ℕ → ℕ → ℕ → Bits
bits_from s r low width =
    record { width = width; number = num (range low width (get_or s.registers r [])) }

-- how many numbers there are from the first to the last
abbrev pub count : ℤ → ℤ → ℕ
count first last = natural ((last +ℤ negative first) +ℤ pos 1)

-- How many bits there are between two indices: one more than n, where the high index is the low one
-- with `+ n` after it.
abbrev pub slice_width : Option ℕ → ℤ → ℤ → ℕ
slice_width (Some n) low high = n + 1
slice_width None low high = count low high

-- Signed, SignExtendN and ZeroExtendN of a slice form read its bits; all else takes its number.
abbrev pub unary_value : UnaryOp → Option Bits → ℤ → ℤ
unary_value Signed (Some b) x = read true b
unary_value (SignExtend w) (Some b) x = read true b
unary_value (ZeroExtend w) (Some b) x = read false b
unary_value op b x = unary_result op x

-- the number that an argument hands: that of the bits of a slice form, else the number's low 128
-- bits
abbrev pub handed : Option Bits → ℤ → ℕ
handed (Some b) x = b.number
handed None x = residue 128 x

abbrev mutual
  pub value : Sight → Expr → ℤ
  value s (literal at n) = pos n
  value s (counter at k) = get_or s.turns k (pos 0)
  value s (variable at k) = get_or s.state.numbers k (pos 0)
  value s (slice at is_signed r n h l) =
      read is_signed
      (bits_from s.state r (natural (value s l)) (slice_width n (value s l) (value s h)))
  value s (element at is_signed r size k) =
      read is_signed (bits_from s.state r (natural (value s k) * size) size)
  value s (front at is_signed r width) = read is_signed (bits_from s.state r 0 width)
  value s (unary at op x) = unary_value op (bits_in s x) (value s x)
  value s (binary at op x y) = binary_result op (value s x) (value s y)
  value s (choice at c x y) = if int_eq (value s c) (pos 0) then value s y else value s x
  value s (call at f xs) = get_or s.functions f (λ ns. pos 0) (numbers_handed s xs)

  -- the bits of a slice form; other expressions have none
  pub bits_in : Sight → Expr → Option Bits
  bits_in s (slice at is_signed r n h l) =
      Some (bits_from s.state r (natural (value s l)) (slice_width n (value s l) (value s h)))
  bits_in s (element at is_signed r size k) =
      Some (bits_from s.state r (natural (value s k) * size) size)
  bits_in s (front at is_signed r width) = Some (bits_from s.state r 0 width)
  bits_in s _ = None

  pub numbers_handed : Sight → Arguments → List ℕ
  numbers_handed s end = []
  numbers_handed s (more x xs) = handed (bits_in s x) (value s x) ∷ numbers_handed s xs

-- what RETURN gives: the number of the bits of a slice form, else the value
abbrev pub answered : Option Bits → ℤ → ℤ
answered (Some b) x = pos b.number
answered None x = x
