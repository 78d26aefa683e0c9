-- Forms: how the number of a value is had at a width that is asked of it.
use Rattle.std.specs.Prelude.{ℕ, List, nat_le, nat_lt, Option, Some, None, slice_index_or, pos, if◌then◌else◌}
use Rattle.vg_base.specs.declared.width.Width.{Width}
use Rattle.vg_base.specs.Width.{bits_of}
use Rattle.vg_rewrite.specs.declared.choice.Compared.{Compared}
use Rattle.vg_rewrite.specs.declared.choice.Reading.{Reading}
use Rattle.vg_rewrite.specs.declared.choice.Reading.TheVariants.{Signed, Unsigned, Either}
use Rattle.vg_rewrite.specs.declared.choice.Shifted.{Shifted}
use Rattle.vg_rewrite.specs.declared.form.Form.{Form}
use Rattle.vg_rewrite.specs.declared.form.Form.TheVariants.{Own, Zero, Same, Whole, Cut}
use Rattle.vg_rewrite.specs.declared.form.Made.{Made}
use Rattle.vg_rewrite.specs.Choice.{comparison_choice, natural_width, shift_choice}
use Rattle.vg_scalar.specs.declared.comparison.Comparison.{Comparison}
use Rattle.vg_scalar.specs.declared.comparison.Comparison.TheVariants.{Eq, Slt, Ult}
use Rattle.vg_scalar.specs.declared.resize.Resize.TheVariants.{Sext, Zext, Trunc}
use Rattle.vg_scalar.specs.declared.shift.Shift.{Shift}
use Rattle.vg_scalar.specs.declared.shift.Shift.TheVariants.{Shl, Lshr, Ashr}
use Rattle.vg_scalar.specs.declared.two_op.TwoOp.{TwoOp}
use Rattle.vg_scalar.specs.declared.two_op.TwoOp.TheVariants.{Add, Sub, Mul, And, Or, Xor, Smin, Smax, Umin, Umax}
use Rattle.vg_shapes.specs.declared.ssa_unit.Operands.{Operands}
use Rattle.vg_shapes.specs.declared.ssa_unit.Operator.{Operator}
use Rattle.vg_shapes.specs.declared.ssa_unit.Operator.TheVariants.{Two, Shift as Shifting, Resize, Compare, Select}
use Rattle.vg_shapes.specs.declared.ssa_unit.SsaUnit.{SsaUnit}
use Rattle.vg_shapes.specs.declared.ssa_unit.SsaUnit.TheVariants.{Load, Store, Operation}
use Rattle.vg_shapes.specs.declared.wanted.Wanted.{Wanted}
use Rattle.vg_shapes.specs.declared.wanted.Wanted.TheVariants.{Value, Nothing}
use Rattle.vg_spans.specs.declared.span.Span.{Span}
use Rattle.vg_spans.specs.Span.{is_unsigned, only}
use Rattle.vg_spans.specs.Spans.{operand_span}

-- an operation of a width and an amount on the forms of operands at the width that is asked of them; the
-- condition of a choice is asked as a bit
abbrev pub made : Operator → Width → ℕ → Operands → Width → Made
made op w k xs t = record { op = op; width = w; amount = k; operands = xs; asked = t }

-- one operand
abbrev pub alone : Wanted → Operands
alone x = record { first = x; second = Nothing; third = Nothing }

-- a unit of forms at t bits, cut to w where t is more
abbrev pub cut_to : Width → Width → Made → Form
cut_to w t m = if nat_lt (bits_of w) (bits_of t) then Cut m else Whole m

-- the value of a parameter or a load at a width that is no more than its own
abbrev pub own_form : ℕ → Width → Width → Form
own_form v own w =
    if nat_lt (bits_of w) (bits_of own) then Whole (made (Resize Trunc own) w 0 (alone (Value v)) own)
    else Own

-- ---- operations

-- the lesser or the greater by a reading
abbrev pub lesser_by : Reading → TwoOp
lesser_by Signed = Smin
lesser_by Unsigned = Umin
lesser_by Either = Umin

abbrev pub greater_by : Reading → TwoOp
greater_by Signed = Smax
greater_by Unsigned = Umax
greater_by Either = Umax

-- less by a reading; equal by either
abbrev pub comparison_by : Reading → Comparison
comparison_by Signed = Slt
comparison_by Unsigned = Ult
comparison_by Either = Eq

abbrev pub reading_of : Comparison → Reading
reading_of Eq = Either
reading_of Slt = Signed
reading_of Ult = Unsigned

-- of the lesser or the greater of two operands of a width, compared as was chosen
abbrev pub extreme_form : (Reading → TwoOp) → Width → Operands → Compared → Form
extreme_form op w xs c = cut_to w c.width (made (Two (op c.reading)) c.width 0 xs c.width)

-- of two operands of a width, compared as they can be
abbrev pub compare_operands : List Span → Reading → Width → Operands → Compared
compare_operands spans how own xs =
    comparison_choice how own (operand_span spans xs.first) (operand_span spans xs.second)

-- at w, of as many low bits of both operands
abbrev pub low_form : TwoOp → Operands → Width → Form
low_form op xs w = Whole (made (Two op) w 0 xs w)

-- an operation on two operands of a width of its own, at w
abbrev pub two_form : List Span → TwoOp → Width → Operands → Width → Form
two_form spans Add own xs w = low_form Add xs w
two_form spans Sub own xs w = low_form Sub xs w
two_form spans Mul own xs w = low_form Mul xs w
two_form spans And own xs w = low_form And xs w
two_form spans Or own xs w = low_form Or xs w
two_form spans Xor own xs w = low_form Xor xs w
two_form spans Smin own xs w = extreme_form lesser_by w xs (compare_operands spans Signed own xs)
two_form spans Smax own xs w = extreme_form greater_by w xs (compare_operands spans Signed own xs)
two_form spans Umin own xs w = extreme_form lesser_by w xs (compare_operands spans Unsigned own xs)
two_form spans Umax own xs w = extreme_form greater_by w xs (compare_operands spans Unsigned own xs)

-- a shift to the right as was chosen
abbrev pub right_form : Width → ℕ → Operands → Shifted → Form
right_form w k xs c = cut_to w c.width (made (Shifting c.op) c.width k xs c.width)

abbrev pub shift_form : List Span → Shift → Width → ℕ → Operands → Width → Form
shift_form spans Shl own k xs w =
    if nat_le (bits_of w) k then Zero else Whole (made (Shifting Shl) w k xs w)
shift_form spans Lshr own k xs w =
    right_form w k xs (shift_choice Lshr k own (operand_span spans xs.first) w)
shift_form spans Ashr own k xs w =
    right_form w k xs (shift_choice Ashr k own (operand_span spans xs.first) w)

-- a comparison as was chosen
abbrev pub comparison_form : Operands → Compared → Form
comparison_form xs c = Whole (made (Compare (comparison_by c.reading)) c.width 0 xs c.width)

-- an operation of a width of its own, at w
abbrev pub operation_form : List Span → Operator → Width → ℕ → Operands → Width → Form
operation_form spans (Two op) own k xs w = two_form spans op own xs w
operation_form spans (Shifting op) own k xs w = shift_form spans op own k xs w
operation_form spans (Resize op from) own k xs w = Same xs.first
operation_form spans (Compare op) own k xs w =
    comparison_form xs (compare_operands spans (reading_of op) own xs)
operation_form spans Select own k xs w = Whole (made Select w 0 xs w)

-- ---- values

-- the form of a value at a width that is no more than its natural one
abbrev pub narrow_form : List Span → ℕ → Option SsaUnit → Width → Width → Form
narrow_form spans v None own w = own_form v own w
narrow_form spans v (Some (Load a m)) own w = own_form v own w
narrow_form spans v (Some (Store a m x)) own w = Own
narrow_form spans v (Some (Operation op m k xs)) own w = operation_form spans op m k xs w

-- an extension of the form at the natural width
abbrev pub wide_form : Span → ℕ → Width → Width → Form
wide_form s v t w =
    if is_unsigned (bits_of t) s then Whole (made (Resize Zext t) w 0 (alone (Value v)) t)
    else Whole (made (Resize Sext t) w 0 (alone (Value v)) t)

-- the form of the value of a number at a width, where the values have these spans: of a parameter, or of
-- a unit, with a width of its own
abbrev pub value_form : List Span → ℕ → Option SsaUnit → Width → Width → Form
value_form spans v unit own w =
    let s = slice_index_or spans v (only (pos 0)) in
    let t = natural_width own s in
    if nat_lt (bits_of t) (bits_of w) then wide_form s v t w else narrow_form spans v unit own w
