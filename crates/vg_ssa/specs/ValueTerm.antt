-- The terms of values.
use Rattle.std.specs.Prelude.{ℕ, ◌+◌, ◌-◌, ◌^◌, ◌&&◌, ◌||◌, Bool, true, false, List, [], ◌∷◌, ◌++◌, length, nat_eq, nat_le, nat_lt, slice_index_or, if◌then◌else◌}
use Rattle.vg_base.specs.declared.width.Width.{Width}
use Rattle.vg_base.specs.Width.{bits_of}
use Rattle.vg_canon.specs.Canonical.{canonical}
use Rattle.vg_scalar.specs.declared.two_op.TwoOp.{TwoOp}
use Rattle.vg_scalar.specs.declared.two_op.TwoOp.TheVariants.{Add, Sub, Mul, And, Or, Xor, Smin, Smax, Umin, Umax}
use Rattle.vg_scalar.specs.declared.shift.Shift.{Shift}
use Rattle.vg_scalar.specs.declared.shift.Shift.TheVariants.{Shl, Lshr, Ashr}
use Rattle.vg_scalar.specs.declared.resize.Resize.{Resize}
use Rattle.vg_scalar.specs.declared.resize.Resize.TheVariants.{Sext, Zext, Trunc}
use Rattle.vg_scalar.specs.declared.comparison.Comparison.{Comparison}
use Rattle.vg_scalar.specs.declared.comparison.Comparison.TheVariants.{Eq, Slt, Ult}
use Rattle.vg_terms.specs.declared.term.OneOp.TheVariants as one_op
use Rattle.vg_terms.specs.declared.term.TwoOp.TheVariants as two_op
use Rattle.vg_terms.specs.Term.{Tree, leaf, constant, one, two, sel, node_count, width_of}
use Rattle.vg_shapes.specs.declared.ssa_unit.Operands.{Operands}
use Rattle.vg_shapes.specs.declared.ssa_unit.Operator.{Operator}
use Rattle.vg_shapes.specs.declared.ssa_unit.Operator.TheVariants as operator
use Rattle.vg_shapes.specs.declared.ssa_unit.SsaUnit.{SsaUnit}
use Rattle.vg_shapes.specs.declared.ssa_unit.SsaUnit.TheVariants.{Load, Store, Operation}
use Rattle.vg_shapes.specs.declared.wanted.Wanted.{Wanted}
use Rattle.vg_shapes.specs.declared.wanted.Wanted.TheVariants.{Value, Constant, Nothing}
use Rattle.vg_shapes.specs.Sound.{argument_key, cut_key, load_key}
use Rattle.vg_ssa.specs.declared.value_terms.Depth.{Depth}
use Rattle.vg_ssa.specs.declared.value_terms.Depth.TheVariants.{Whole, Cut}

-- a difference is a sum with the other number times -1
abbrev pub two_term : TwoOp → ℕ → Tree → Tree → Tree
two_term Add w x y = two two_op.Add w x y
two_term Sub w x y =
    two two_op.Add w x (two two_op.Mul w y (constant w (2 ^ w - 1)))
two_term Mul w x y = two two_op.Mul w x y
two_term And w x y = two two_op.And w x y
two_term Or w x y = two two_op.Or w x y
two_term Xor w x y = two two_op.Xor w x y
two_term Smin w x y = two two_op.Smin w x y
two_term Smax w x y = two two_op.Smax w x y
two_term Umin w x y = two two_op.Umin w x y
two_term Umax w x y = two two_op.Umax w x y

-- a shift to the left is a product
abbrev pub shift_term : Shift → ℕ → ℕ → Tree → Tree
shift_term Shl w k x = two two_op.Mul w x (constant w (2 ^ k))
shift_term Lshr w k x = one one_op.Lshr w k x
shift_term Ashr w k x = one one_op.Ashr w k x

abbrev pub resize_term : Resize → ℕ → Tree → Tree
resize_term Sext w x = one one_op.Sext w 0 x
resize_term Zext w x = one one_op.Zext w 0 x
resize_term Trunc w x = one one_op.Trunc w 0 x

abbrev pub comparison_term : Comparison → Tree → Tree → Tree
comparison_term Eq x y = two two_op.Eq 1 x y
comparison_term Slt x y = two two_op.Slt 1 x y
comparison_term Ult x y = two two_op.Ult 1 x y

-- an operation of a width in bits and an amount over the terms of its operands
abbrev pub operation_term : Operator → ℕ → ℕ → Tree → Tree → Tree → Tree
operation_term (operator.Two op) w k x y z = two_term op w x y
operation_term (operator.Shift op) w k x y z = shift_term op w k x
operation_term (operator.Resize op v) w k x y z = resize_term op w x
operation_term (operator.Compare op) w k x y z = comparison_term op x y
operation_term operator.Select w k x y z = sel w x y z

-- what stands where there is no term
abbrev pub no_term : Tree
no_term = constant 8 0

-- the term of an operand
abbrev pub operand_term : List Tree → Wanted → Tree
operand_term terms (Value v) = slice_index_or terms v no_term
operand_term terms (Constant w n) = constant w n
operand_term terms Nothing = no_term

-- the same, where the value of a unit is a leaf; the first unit has this number, and this says whether
-- a bit is written out
abbrev pub cut_term : Bool → ℕ → List Tree → Wanted → Tree
cut_term bits first terms (Value v) =
    let t = slice_index_or terms v no_term in
    if nat_lt v first || (bits && nat_eq (width_of t) 1) then t else leaf (width_of t) (cut_key v)
cut_term bits first terms (Constant w n) = constant w n
cut_term bits first terms Nothing = no_term

-- an operation over what stands for its operands
abbrev pub over_operands : (Wanted → Tree) → Operator → ℕ → ℕ → Operands → Tree
over_operands term op w k xs =
    canonical (operation_term op w k (term xs.first) (term xs.second) (term xs.third))

-- whether the terms of operands are looked into, where they make no more than 128 nodes, and whether
-- a bit is written out where they are not
abbrev pub looks_in : Depth → Bool
looks_in Whole = true
looks_in Cut = false

abbrev pub writes_bits : Depth → Bool
writes_bits Whole = false
writes_bits Cut = true

-- the term of the next value; an operation that is not looked into is cut at its operands
abbrev pub unit_term : Depth → ℕ → List Tree → SsaUnit → Tree
unit_term d first terms (Load a w) = leaf (bits_of w) (load_key a (length terms))
unit_term d first terms (Store a w x) = no_term
unit_term d first terms (Operation op w k xs) =
    let whole = over_operands (operand_term terms) op (bits_of w) k xs in
    if looks_in d && nat_le (node_count whole) 128 then whole
    else over_operands (cut_term (writes_bits d) first terms) op (bits_of w) k xs

-- the terms of integer parameters of these widths, of which the first has this number
abbrev pub argument_terms : ℕ → List Width → List Tree
argument_terms v [] = []
argument_terms v (w ∷ ws) = leaf (bits_of w) (argument_key v) ∷ argument_terms (v + 1) ws

-- the terms so far, and those of the units after them
abbrev pub terms_behind : Depth → ℕ → List Tree → List SsaUnit → List Tree
terms_behind d first terms [] = terms
terms_behind d first terms (u ∷ us) =
    terms_behind d first (terms ++ unit_term d first terms u ∷ []) us
