-- The spans of values: whole numbers among which the number of a value is.
use Rattle.std.specs.Prelude.{ℕ, ◌+◌, ◌^◌, ◌+ℤ◌, ◌-ℤ◌, ◌*ℤ◌, ◌||◌, pos, int_lt, List, [], ◌∷◌, ◌++◌, map, slice_index_or, if◌then◌else◌}
use Rattle.std.specs.Int.{int_min, int_max}
use Rattle.vg_base.specs.Bits.{signed_at}
use Rattle.vg_base.specs.Number.{floor_shift}
use Rattle.vg_base.specs.Width.{bits_of}
use Rattle.vg_scalar.specs.declared.resize.Resize.{Resize}
use Rattle.vg_scalar.specs.declared.resize.Resize.TheVariants.{Sext, Zext, Trunc}
use Rattle.vg_scalar.specs.declared.shift.Shift.{Shift}
use Rattle.vg_scalar.specs.declared.shift.Shift.TheVariants.{Shl, Lshr, Ashr}
use Rattle.vg_scalar.specs.declared.two_op.TwoOp.{TwoOp}
use Rattle.vg_scalar.specs.declared.two_op.TwoOp.TheVariants.{Add, Sub, Mul, And, Or, Xor, Smin, Smax, Umin, Umax}
use Rattle.vg_shapes.specs.declared.ssa.Ssa.{Ssa}
use Rattle.vg_shapes.specs.declared.ssa.SsaParam.{SsaParam}
use Rattle.vg_shapes.specs.declared.ssa_unit.Operands.{Operands}
use Rattle.vg_shapes.specs.declared.ssa_unit.Operator.{Operator}
use Rattle.vg_shapes.specs.declared.ssa_unit.Operator.TheVariants.{Two, Shift as Shifted, Resize as ToWidth, Compare, Select}
use Rattle.vg_shapes.specs.declared.ssa_unit.SsaUnit.{SsaUnit}
use Rattle.vg_shapes.specs.declared.ssa_unit.SsaUnit.TheVariants.{Load, Store, Operation}
use Rattle.vg_shapes.specs.declared.wanted.Wanted.{Wanted}
use Rattle.vg_shapes.specs.declared.wanted.Wanted.TheVariants.{Value, Constant, Nothing}
use Rattle.vg_shapes.specs.Sound.{kind_bits}
use Rattle.vg_shapes.specs.Units.{integers_of}
use Rattle.vg_spans.specs.declared.operand_spans.OperandSpans.{OperandSpans}
use Rattle.vg_spans.specs.declared.span.Span.{Span}
use Rattle.vg_spans.specs.Span.{between_ends, bits_needed, end_by_end, hull, is_signed, is_unsigned, only, readable, signed_span, span, unsigned_span}

-- ---- operands

-- the span of an operand, where the values have these; that of a constant is its signed number alone
abbrev pub operand_span : List Span → Wanted → Span
operand_span spans (Value v) = slice_index_or spans v (only (pos 0))
operand_span spans (Constant w n) = only (signed_at w n)
operand_span spans Nothing = only (pos 0)

-- the signed numbers of an operand of w bits
abbrev pub signed_numbers : ℕ → Span → Span
signed_numbers w s = if is_signed w s then s else signed_span w

-- its unsigned numbers; that of a constant is alone
abbrev pub unsigned_numbers : ℕ → List Span → Wanted → Span
unsigned_numbers w spans (Value v) =
    let s = operand_span spans (Value v) in
    if is_unsigned w s then s else unsigned_span w
unsigned_numbers w spans (Constant m n) = only (pos n)
unsigned_numbers w spans Nothing = only (pos 0)

-- an operand of w bits, read in each way
abbrev pub read_operand : ℕ → List Span → Wanted → OperandSpans
read_operand w spans x =
    record {
      plain = operand_span spans x;
      signed = signed_numbers w (operand_span spans x);
      unsigned = unsigned_numbers w spans x;
    }

-- ---- operations of w bits

-- of or and xor
abbrev pub bits_span : Span → Span → Span
bits_span s t =
    if int_lt s.low (pos 0) || int_lt t.low (pos 0) then signed_span (bits_needed s t + 1)
    else unsigned_span (bits_needed s t)

abbrev pub two_span : TwoOp → ℕ → OperandSpans → OperandSpans → Span
two_span Add w x y = readable w (between_ends (λ a b. a +ℤ b) x.plain y.plain)
two_span Sub w x y = readable w (between_ends (λ a b. a -ℤ b) x.plain y.plain)
two_span Mul w x y = readable w (between_ends (λ a b. a *ℤ b) x.plain y.plain)
two_span And w x y = readable w (span (pos 0) (int_min x.unsigned.high y.unsigned.high))
two_span Or w x y = readable w (bits_span x.plain y.plain)
two_span Xor w x y = readable w (bits_span x.plain y.plain)
two_span Smin w x y = end_by_end int_min x.signed y.signed
two_span Smax w x y = end_by_end int_max x.signed y.signed
two_span Umin w x y = end_by_end int_min x.unsigned y.unsigned
two_span Umax w x y = end_by_end int_max x.unsigned y.unsigned

-- both ends over 2 ^ k, rounded down
abbrev pub shifted_down : Span → ℕ → Span
shifted_down s k = span (floor_shift s.low k) (floor_shift s.high k)

abbrev pub shift_span : Shift → ℕ → ℕ → OperandSpans → Span
shift_span Shl w k x = readable w (between_ends (λ a b. a *ℤ b) x.plain (only (pos (2 ^ k))))
shift_span Lshr w k x = shifted_down x.unsigned k
shift_span Ashr w k x = shifted_down x.signed k

abbrev pub resize_span : Resize → ℕ → OperandSpans → Span
resize_span Sext w x = x.signed
resize_span Zext w x = x.unsigned
resize_span Trunc w x = readable w x.plain

abbrev pub operation_span : List Span → Operator → ℕ → ℕ → Operands → Span
operation_span spans (Two op) w k xs =
    two_span op w (read_operand w spans xs.first) (read_operand w spans xs.second)
operation_span spans (Shifted op) w k xs = shift_span op w k (read_operand w spans xs.first)
operation_span spans (ToWidth op v) w k xs =
    resize_span op w (read_operand (bits_of v) spans xs.first)
operation_span spans (Compare op) w k xs = span (pos 0) (pos 1)
operation_span spans Select w k xs =
    readable w (hull (operand_span spans xs.second) (operand_span spans xs.third))

-- ---- values

-- the span of the value of a unit; a store has none, and 0 stands in its place
abbrev pub unit_span : List Span → SsaUnit → Span
unit_span spans (Load a w) = signed_span (bits_of w)
unit_span spans (Store a w x) = only (pos 0)
unit_span spans (Operation op w k xs) = operation_span spans op (bits_of w) k xs

-- the spans so far, and those of the units after them
abbrev pub spans_behind : List Span → List SsaUnit → List Span
spans_behind spans [] = spans
spans_behind spans (u ∷ us) = spans_behind (spans ++ unit_span spans u ∷ []) us

-- those of the integer parameters
abbrev pub argument_spans : List SsaParam → List Span
argument_spans params = map (λ p. signed_span (kind_bits p.kind)) (integers_of params)

-- for each number the span of its value
abbrev pub spans_of : Ssa → List Span
spans_of ssa = spans_behind (argument_spans ssa.params) ssa.units
