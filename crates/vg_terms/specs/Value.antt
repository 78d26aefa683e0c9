-- The value of a term: a number below 2 ^ width.
use Rattle.std.specs.Prelude.{ℕ, ◌+◌, ◌*◌, ◌/◌, ◌%◌, ◌^◌, Bool, List, [], ◌∷◌, min, max, nat_lt, nat_eq, if◌then◌else◌, bit_and, bit_or, bit_xor, ◌&&◌, int_lt}
use Rattle.std.specs.Ordering.{int_eq}
use Rattle.vg_base.specs.Bits.{signed_at}
use Rattle.vg_base.specs.Number.{residue, floor_shift}
use Rattle.vg_terms.specs.declared.term.LeafKey.{LeafKey}
use Rattle.vg_terms.specs.declared.term.OneOp.{OneOp}
use Rattle.vg_terms.specs.declared.term.OneOp.TheVariants.{Zext, Sext, Trunc, Lshr, Ashr}
use Rattle.vg_terms.specs.declared.term.TwoOp.{TwoOp}
use Rattle.vg_terms.specs.declared.term.TwoOp.TheVariants.{Add, Mul, And, Or, Xor, Smin, Smax, Umin, Umax, Eq, Slt, Ult, Cat}
use Rattle.vg_terms.specs.declared.value.Env.{Env}
use Rattle.vg_terms.specs.Term.{Tree, leaf, constant, one, two, sel, width_of}

abbrev pub same_key : LeafKey → LeafKey → Bool
same_key a b = nat_eq a.kind b.kind && nat_eq a.first b.first && int_eq a.second b.second && nat_eq a.third b.third

-- the number of the first pair with the key, else 0
abbrev pub number_at : List (LeafKey × ℕ) → LeafKey → ℕ
number_at [] key = 0
number_at (pair ∷ pairs) key = if same_key pair.0 key then pair.1 else number_at pairs key

-- an operation of width w and amount k on the number v of a term of width m
abbrev pub one_value : OneOp → ℕ → ℕ → ℕ → ℕ → ℕ
one_value Zext w k m v = v
one_value Sext w k m v = residue w (signed_at m v)
one_value Trunc w k m v = v % 2 ^ w
one_value Lshr w k m v = v / 2 ^ k
one_value Ashr w k m v = residue w (floor_shift (signed_at m v) k)

-- an operation of width w on the numbers a and b of two terms, the second of width n
abbrev pub two_value : TwoOp → ℕ → ℕ → ℕ → ℕ → ℕ
two_value Add w n a b = (a + b) % 2 ^ w
two_value Mul w n a b = (a * b) % 2 ^ w
two_value And w n a b = bit_and a b
two_value Or w n a b = bit_or a b
two_value Xor w n a b = bit_xor a b
two_value Smin w n a b = if int_lt (signed_at n a) (signed_at n b) then a else b
two_value Smax w n a b = if int_lt (signed_at n a) (signed_at n b) then b else a
two_value Umin w n a b = min a b
two_value Umax w n a b = max a b
two_value Eq w n a b = if nat_eq a b then 1 else 0
two_value Slt w n a b = if int_lt (signed_at n a) (signed_at n b) then 1 else 0
two_value Ult w n a b = if nat_lt a b then 1 else 0
two_value Cat w n a b = a * 2 ^ n + b

-- the value of a term whose leaves stand for these numbers, each taken modulo 2 ^ width of its leaf
abbrev pub value : Env → Tree → ℕ
value env (leaf w k) = number_at env.pairs k % 2 ^ w
value env (constant w v) = v
value env (one op w k x) = one_value op w k (width_of x) (value env x)
value env (two op w x y) = two_value op w (width_of y) (value env x) (value env y)
value env (sel w c x y) = if nat_eq (value env c) 1 then value env x else value env y
