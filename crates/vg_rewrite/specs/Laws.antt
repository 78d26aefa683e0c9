-- What forms promise.
use Rattle.std.specs.Prelude.{◌≡◌, ◌<◌, ℕ, ℤ, pos, Bool, true, false, List, length, take, Some, unwrap_or, slice_index, if◌then◌else◌}
use Rattle.vg_base.specs.Bits.{signed_at}
use Rattle.vg_base.specs.Number.{residue}
use Rattle.vg_base.specs.declared.width.Width.{Width}
use Rattle.vg_base.specs.Width.{bits_of}
use Rattle.vg_bits.specs.BitList.{IsBytes}
use Rattle.vg_rewrite.specs.declared.form.Form.{Form}
use Rattle.vg_rewrite.specs.declared.form.Form.TheVariants.{Own, Zero, Same, Whole, Cut}
use Rattle.vg_rewrite.specs.declared.form.Made.{Made}
use Rattle.vg_rewrite.specs.Form.{operation_form, value_form}
use Rattle.vg_scalar.specs.declared.comparison.Comparison.{Comparison}
use Rattle.vg_scalar.specs.Scalar.{low}
use Rattle.vg_shapes.specs.declared.ssa.Ssa.{Ssa}
use Rattle.vg_shapes.specs.declared.ssa_unit.Operands.{Operands}
use Rattle.vg_shapes.specs.declared.ssa_unit.Operator.{Operator}
use Rattle.vg_shapes.specs.declared.ssa_unit.Operator.TheVariants.{Two, Shift, Resize, Compare, Select}
use Rattle.vg_shapes.specs.declared.ssa_unit.SsaUnit.TheVariants.{Operation}
use Rattle.vg_shapes.specs.declared.wanted.Wanted.{Wanted}
use Rattle.vg_shapes.specs.declared.wanted.Wanted.TheVariants.{Value, Constant, Nothing}
use Rattle.vg_shapes.specs.RunUnits.{number_of, operation_result, Reached, run_units, start_of}
use Rattle.vg_shapes.specs.Sound.{AreArguments, IsSound, value_bits}
use Rattle.vg_shapes.specs.Units.{integers, unit_at}
use Rattle.vg_spans.specs.Laws.{span_at}
use Rattle.vg_spans.specs.Span.{whole_number}
use Rattle.vg_spans.specs.Spans.{spans_of}

-- the whole number that an operand stands for, where the values have these numbers
abbrev pub whole_of : Ssa → List ℕ → Wanted → ℤ
whole_of ssa numbers (Value v) =
    whole_number (unwrap_or (value_bits ssa v) 1) (span_at ssa v) (slice_index numbers v)
whole_of ssa numbers (Constant m n) = signed_at m n
whole_of ssa numbers Nothing = pos 0

-- the number of w bits that is congruent to it: the number of its form at w bits
abbrev pub form_number : Ssa → List ℕ → ℕ → Wanted → ℕ
form_number ssa numbers w x = residue w (whole_of ssa numbers x)

abbrev pub is_choice : Operator → Bool
is_choice (Two op) = false
is_choice (Shift op) = false
is_choice (Resize op v) = false
is_choice (Compare op) = false
is_choice Select = true

-- the number of the first operand's form; the condition of a choice is a bit and has its own
abbrev pub first_number : Ssa → List ℕ → Made → ℕ
first_number ssa numbers m =
    if is_choice m.op then number_of (slice_index numbers) m.operands.first
    else form_number ssa numbers (bits_of m.asked) m.operands.first

-- what an operation makes of the numbers of forms
abbrev pub made_number : Ssa → List ℕ → Made → ℕ
made_number ssa numbers m =
    operation_result m.op (bits_of m.width) m.amount (first_number ssa numbers m)
    (form_number ssa numbers (bits_of m.asked) m.operands.second)
    (form_number ssa numbers (bits_of m.asked) m.operands.third)

-- the number that a form of a value makes at a width
abbrev pub number_by : Ssa → List ℕ → ℕ → Width → Form → ℕ
number_by ssa numbers v w Own = slice_index numbers v
number_by ssa numbers v w Zero = 0
number_by ssa numbers v w (Same x) = form_number ssa numbers (bits_of w) x
number_by ssa numbers v w (Whole m) = made_number ssa numbers m
number_by ssa numbers v w (Cut m) = low (bits_of w) (made_number ssa numbers m)

-- where a run reaches a value, its form at a width makes the number that is congruent to the whole
-- number of the value modulo 2 to the width, from such numbers of what the form is made of
abbrev pub FormsHold : Type 0
FormsHold =
    (ssa : Ssa) (places memory args : List ℕ) (k : ℕ) (r : Reached) →
    IsSound ssa → IsBytes memory → AreArguments (integers ssa) args →
    run_units places (take k ssa.units) (start_of memory args) ≡ Some r →
    (v : ℕ) (own w : Width) → v < length r.numbers → value_bits ssa v ≡ Some (bits_of own) →
    number_by ssa r.numbers v w (value_form (spans_of ssa) v (unit_at ssa v) own w)
    ≡ form_number ssa r.numbers (bits_of w) (Value v)

-- and that of a comparison is the bit
abbrev pub BitFormsHold : Type 0
BitFormsHold =
    (ssa : Ssa) (places memory args : List ℕ) (k : ℕ) (r : Reached) →
    IsSound ssa → IsBytes memory → AreArguments (integers ssa) args →
    run_units places (take k ssa.units) (start_of memory args) ≡ Some r →
    (v : ℕ) (op : Comparison) (own w : Width) (amount : ℕ) (xs : Operands) →
    v < length r.numbers → unit_at ssa v ≡ Some (Operation (Compare op) own amount xs) →
    number_by ssa r.numbers v w (operation_form (spans_of ssa) (Compare op) own amount xs w)
    ≡ slice_index r.numbers v
