-- When units are the same.
use Rattle.std.specs.Prelude.{ℕ, Bool, true, false, List, [], ◌∷◌, ◌&&◌, nat_eq}
use Rattle.std.specs.Ordering.{int_eq}
use Rattle.vg_base.specs.declared.address.Address.{Address}
use Rattle.vg_base.specs.Width.{bits_of}
use Rattle.vg_scalar.specs.declared.comparison.Comparison.{Comparison}
use Rattle.vg_scalar.specs.declared.comparison.Comparison.TheVariants.{Eq, Slt, Ult}
use Rattle.vg_scalar.specs.declared.resize.Resize as resizes
use Rattle.vg_scalar.specs.declared.resize.Resize.TheVariants.{Sext, Zext, Trunc}
use Rattle.vg_scalar.specs.declared.shift.Shift as shifts
use Rattle.vg_scalar.specs.declared.shift.Shift.TheVariants.{Shl, Lshr, Ashr}
use Rattle.vg_scalar.specs.declared.two_op.TwoOp.{TwoOp}
use Rattle.vg_scalar.specs.declared.two_op.TwoOp.TheVariants.{Add, Sub, Mul, And, Or, Xor, Smin, Smax, Umin, Umax}
use Rattle.vg_shapes.specs.declared.ssa_unit.Operands.{Operands}
use Rattle.vg_shapes.specs.declared.ssa_unit.Operator.{Operator}
use Rattle.vg_shapes.specs.declared.ssa_unit.Operator.TheVariants.{Two, Shift, Resize, Compare, Select}
use Rattle.vg_shapes.specs.declared.ssa_unit.SsaUnit.{SsaUnit}
use Rattle.vg_shapes.specs.declared.ssa_unit.SsaUnit.TheVariants.{Load, Store, Operation}
use Rattle.vg_shapes.specs.Wanted.{same_wanted}

-- a number for each operation of a kind

abbrev pub two_number : TwoOp → ℕ
two_number Add = 0
two_number Sub = 1
two_number Mul = 2
two_number And = 3
two_number Or = 4
two_number Xor = 5
two_number Smin = 6
two_number Smax = 7
two_number Umin = 8
two_number Umax = 9

abbrev pub shift_number : shifts.Shift → ℕ
shift_number Shl = 0
shift_number Lshr = 1
shift_number Ashr = 2

abbrev pub resize_number : resizes.Resize → ℕ
resize_number Sext = 0
resize_number Zext = 1
resize_number Trunc = 2

abbrev pub comparison_number : Comparison → ℕ
comparison_number Eq = 0
comparison_number Slt = 1
comparison_number Ult = 2

abbrev pub same_operator : Operator → Operator → Bool
same_operator (Two f) (Two g) = nat_eq (two_number f) (two_number g)
same_operator (Shift f) (Shift g) = nat_eq (shift_number f) (shift_number g)
same_operator (Resize f v) (Resize g w) =
    nat_eq (resize_number f) (resize_number g) && nat_eq (bits_of v) (bits_of w)
same_operator (Compare f) (Compare g) = nat_eq (comparison_number f) (comparison_number g)
same_operator Select Select = true
same_operator _ _ = false

abbrev pub same_operands : Operands → Operands → Bool
same_operands xs ys =
    same_wanted xs.first ys.first
    && (same_wanted xs.second ys.second && same_wanted xs.third ys.third)

abbrev pub same_address : Address → Address → Bool
same_address a b = nat_eq a.pointer b.pointer && int_eq a.offset b.offset

abbrev pub same_unit : SsaUnit → SsaUnit → Bool
same_unit (Load a w) (Load b v) = same_address a b && nat_eq (bits_of w) (bits_of v)
same_unit (Store a w x) (Store b v y) =
    same_address a b && (nat_eq (bits_of w) (bits_of v) && same_wanted x y)
same_unit (Operation f w k xs) (Operation g v l ys) =
    same_operator f g
    && (nat_eq (bits_of w) (bits_of v) && (nat_eq k l && same_operands xs ys))
same_unit _ _ = false

abbrev pub same_units : List SsaUnit → List SsaUnit → Bool
same_units [] [] = true
same_units [] (v ∷ vs) = false
same_units (u ∷ us) [] = false
same_units (u ∷ us) (v ∷ vs) = same_unit u v && same_units us vs
