-- Units that are told to be the same are one.
use Rattle.std.proofs.Common.{◌≡◌, ◌∙◌, ℕ, zero, suc, Bool, true, false, List, [], ◌∷◌, refl, sym, ap}
use Rattle.std.specs.Prelude.{ℤ, ◌&&◌, nat_eq}
use Rattle.std.specs.Ordering.{int_eq}
use Rattle.std.proofs.lemmas.Bool.{eqb-true}
use Rattle.std.proofs.lemmas.Bool.Decides.{Decides-int_eq}
use Rattle.vg_base.specs.declared.address.Address.{Address}
use Rattle.vg_base.specs.declared.width.Width.{Width}
use Rattle.vg_base.specs.Width.{bits_of}
use Rattle.vg_base.proofs.SameWidth.{width-same}
use Rattle.vg_kernel_plans.proofs.SameTests.{both-true}
use Rattle.vg_scalar.specs.declared.comparison.Comparison.{Comparison}
use Rattle.vg_scalar.specs.declared.comparison.Comparison.TheVariants.{Eq, Slt, Ult}
use Rattle.vg_scalar.specs.declared.resize.Resize as resizes
use Rattle.vg_scalar.specs.declared.resize.Resize.TheVariants.{Sext, Zext, Trunc}
use Rattle.vg_scalar.specs.declared.shift.Shift as shifts
use Rattle.vg_scalar.specs.declared.shift.Shift.TheVariants.{Shl, Lshr, Ashr}
use Rattle.vg_scalar.specs.declared.two_op.TwoOp.{TwoOp}
use Rattle.vg_scalar.specs.declared.two_op.TwoOp.TheVariants.{Add, Sub, Mul, And, Or, Xor, Smin, Smax, Umin, Umax}
use Rattle.vg_shapes.specs.declared.ssa_unit.Operands.{Operands}
use Rattle.vg_shapes.specs.declared.ssa_unit.Operator.{Operator}
use Rattle.vg_shapes.specs.declared.ssa_unit.Operator.TheVariants.{Two, Shift, Resize, Compare, Select}
use Rattle.vg_shapes.specs.declared.ssa_unit.SsaUnit.{SsaUnit}
use Rattle.vg_shapes.specs.declared.ssa_unit.SsaUnit.TheVariants.{Load, Store, Operation}
use Rattle.vg_shapes.specs.declared.wanted.Wanted.{Wanted}
use Rattle.vg_shapes.specs.Wanted.{same_wanted}
use Rattle.vg_shapes.proofs.SameWanted.{wanted-same}
use Rattle.vg_compile.specs.SameUnits.{comparison_number, resize_number, same_address, same_operands, same_operator, same_unit, same_units, shift_number, two_number}

-- ---- operations by their numbers

abbrev two_of : ℕ → TwoOp
two_of zero = Add
two_of (suc zero) = Sub
two_of (suc (suc zero)) = Mul
two_of (suc (suc (suc zero))) = And
two_of (suc (suc (suc (suc zero)))) = Or
two_of (suc (suc (suc (suc (suc zero))))) = Xor
two_of (suc (suc (suc (suc (suc (suc zero)))))) = Smin
two_of (suc (suc (suc (suc (suc (suc (suc zero))))))) = Smax
two_of (suc (suc (suc (suc (suc (suc (suc (suc zero)))))))) = Umin
two_of (suc (suc (suc (suc (suc (suc (suc (suc (suc n))))))))) = Umax

two-back : (op : TwoOp) → two_of (two_number op) ≡ op
two-back Add = refl
two-back Sub = refl
two-back Mul = refl
two-back And = refl
two-back Or = refl
two-back Xor = refl
two-back Smin = refl
two-back Smax = refl
two-back Umin = refl
two-back Umax = refl

abbrev shift_of : ℕ → shifts.Shift
shift_of zero = Shl
shift_of (suc zero) = Lshr
shift_of (suc (suc n)) = Ashr

shift-back : (op : shifts.Shift) → shift_of (shift_number op) ≡ op
shift-back Shl = refl
shift-back Lshr = refl
shift-back Ashr = refl

abbrev resize_of : ℕ → resizes.Resize
resize_of zero = Sext
resize_of (suc zero) = Zext
resize_of (suc (suc n)) = Trunc

resize-back : (op : resizes.Resize) → resize_of (resize_number op) ≡ op
resize-back Sext = refl
resize-back Zext = refl
resize-back Trunc = refl

abbrev comparison_of : ℕ → Comparison
comparison_of zero = Eq
comparison_of (suc zero) = Slt
comparison_of (suc (suc n)) = Ult

comparison-back : (op : Comparison) → comparison_of (comparison_number op) ≡ op
comparison-back Eq = refl
comparison-back Slt = refl
comparison-back Ult = refl

-- what is had back from its number is one where the numbers are
from-number : {X : Type 0} (f : X → ℕ) (g : ℕ → X) → ((x : X) → g (f x) ≡ x) → (x y : X) → nat_eq (f x) (f y) ≡ true → x ≡ y
from-number f g back x y e = sym (back x) ∙ ap g (eqb-true (f x) (f y) e) ∙ back y

-- ---- parts of units

width-is : (w v : Width) → nat_eq (bits_of w) (bits_of v) ≡ true → w ≡ v
width-is w v e = width-same w v (eqb-true (bits_of w) (bits_of v) e)

int-is : (x y : ℤ) → int_eq x y ≡ true → x ≡ y
int-is x y e = (Decides-int_eq x y).0 e

address-is : (a b : Address) → same_address a b ≡ true → a ≡ b
address-is a b e =
    let k = both-true (nat_eq a.pointer b.pointer) (int_eq a.offset b.offset) e in
    let p = eqb-true a.pointer b.pointer k.0 in
    let o = int-is a.offset b.offset k.1 in
    λ i. record { pointer = p i; offset = o i }

operands-are : (xs ys : Operands) → same_operands xs ys ≡ true → xs ≡ ys
operands-are xs ys e =
    let k = both-true (same_wanted xs.first ys.first) (same_wanted xs.second ys.second && same_wanted xs.third ys.third) e in
    let m = both-true (same_wanted xs.second ys.second) (same_wanted xs.third ys.third) k.1 in
    let x = wanted-same xs.first ys.first k.0 in
    let y = wanted-same xs.second ys.second m.0 in
    let z = wanted-same xs.third ys.third m.1 in
    λ i. record { first = x i; second = y i; third = z i }

operator-is : (f g : Operator) → same_operator f g ≡ true → f ≡ g
operator-is (Two f) (Two g) e = ap Two (from-number two_number two_of two-back f g e)
operator-is (Shift f) (Shift g) e = ap Shift (from-number shift_number shift_of shift-back f g e)
operator-is (Resize f v) (Resize g w) e =
    let k = both-true (nat_eq (resize_number f) (resize_number g)) (nat_eq (bits_of v) (bits_of w)) e in
    let op = from-number resize_number resize_of resize-back f g k.0 in
    let from = width-is v w k.1 in
    λ i. Resize (op i) (from i)
operator-is (Compare f) (Compare g) e = ap Compare (from-number comparison_number comparison_of comparison-back f g e)
operator-is Select Select e = refl
operator-is (Two f) (Shift g) e = absurd (cc)
operator-is (Two f) (Resize g w) e = absurd (cc)
operator-is (Two f) (Compare g) e = absurd (cc)
operator-is (Two f) Select e = absurd (cc)
operator-is (Shift f) (Two g) e = absurd (cc)
operator-is (Shift f) (Resize g w) e = absurd (cc)
operator-is (Shift f) (Compare g) e = absurd (cc)
operator-is (Shift f) Select e = absurd (cc)
operator-is (Resize f v) (Two g) e = absurd (cc)
operator-is (Resize f v) (Shift g) e = absurd (cc)
operator-is (Resize f v) (Compare g) e = absurd (cc)
operator-is (Resize f v) Select e = absurd (cc)
operator-is (Compare f) (Two g) e = absurd (cc)
operator-is (Compare f) (Shift g) e = absurd (cc)
operator-is (Compare f) (Resize g w) e = absurd (cc)
operator-is (Compare f) Select e = absurd (cc)
operator-is Select (Two g) e = absurd (cc)
operator-is Select (Shift g) e = absurd (cc)
operator-is Select (Resize g w) e = absurd (cc)
operator-is Select (Compare g) e = absurd (cc)

-- ---- units

unit-is : (u v : SsaUnit) → same_unit u v ≡ true → u ≡ v
unit-is (Load a w) (Load b v) e =
    let k = both-true (same_address a b) (nat_eq (bits_of w) (bits_of v)) e in
    let address = address-is a b k.0 in
    let width = width-is w v k.1 in
    λ i. Load (address i) (width i)
unit-is (Store a w x) (Store b v y) e =
    let k = both-true (same_address a b) (nat_eq (bits_of w) (bits_of v) && same_wanted x y) e in
    let m = both-true (nat_eq (bits_of w) (bits_of v)) (same_wanted x y) k.1 in
    let address = address-is a b k.0 in
    let width = width-is w v m.0 in
    let value = wanted-same x y m.1 in
    λ i. Store (address i) (width i) (value i)
unit-is (Operation f w k xs) (Operation g v l ys) e =
    let a = both-true (same_operator f g) (nat_eq (bits_of w) (bits_of v) && (nat_eq k l && same_operands xs ys)) e in
    let b = both-true (nat_eq (bits_of w) (bits_of v)) (nat_eq k l && same_operands xs ys) a.1 in
    let c = both-true (nat_eq k l) (same_operands xs ys) b.1 in
    let op = operator-is f g a.0 in
    let width = width-is w v b.0 in
    let amount = eqb-true k l c.0 in
    let operands = operands-are xs ys c.1 in
    λ i. Operation (op i) (width i) (amount i) (operands i)
unit-is (Load a w) (Store b v y) e = absurd (cc)
unit-is (Load a w) (Operation g v l ys) e = absurd (cc)
unit-is (Store a w x) (Load b v) e = absurd (cc)
unit-is (Store a w x) (Operation g v l ys) e = absurd (cc)
unit-is (Operation f w k xs) (Load b v) e = absurd (cc)
unit-is (Operation f w k xs) (Store b v y) e = absurd (cc)

pub units-are : (us vs : List SsaUnit) → same_units us vs ≡ true → us ≡ vs
units-are [] [] e = refl
units-are [] (v ∷ vs) e = absurd (cc)
units-are (u ∷ us) [] e = absurd (cc)
units-are (u ∷ us) (v ∷ vs) e =
    let k = both-true (same_unit u v) (same_units us vs) e in
    let first = unit-is u v k.0 in
    let rest = units-are us vs k.1 in
    λ i. first i ∷ rest i
