-- What the spans of values promise.
use Rattle.std.specs.Prelude.{◌≡◌, ◌<◌, ◌||◌, ℕ, List, length, take, true, Some, pos, slice_index, slice_index_or}
use Rattle.vg_bits.specs.BitList.{IsBytes}
use Rattle.vg_shapes.specs.declared.ssa.Ssa.{Ssa}
use Rattle.vg_shapes.specs.RunUnits.{Reached, run_units, start_of}
use Rattle.vg_shapes.specs.Sound.{AreArguments, IsSound, value_bits}
use Rattle.vg_shapes.specs.Units.{integers}
use Rattle.vg_spans.specs.declared.span.Span.{Span}
use Rattle.vg_spans.specs.Span.{IsIn, is_signed, is_unsigned, only, whole_number}
use Rattle.vg_spans.specs.Spans.{spans_of}

abbrev pub span_at : Ssa → ℕ → Span
span_at ssa v = slice_index_or (spans_of ssa) v (only (pos 0))

-- the span of a value of w bits has signed numbers of w bits alone, or unsigned ones alone
abbrev pub SpansAreReadable : Type 0
SpansAreReadable =
    (ssa : Ssa) (v w : ℕ) → IsSound ssa → value_bits ssa v ≡ Some w →
    (is_signed w (span_at ssa v) || is_unsigned w (span_at ssa v)) ≡ true

-- where a run reaches a value, the whole number that its number stands for is in its span
abbrev pub SpansHold : Type 0
SpansHold =
    (ssa : Ssa) (places memory args : List ℕ) (k : ℕ) (r : Reached) →
    IsSound ssa → IsBytes memory → AreArguments (integers ssa) args →
    run_units places (take k ssa.units) (start_of memory args) ≡ Some r →
    (v w : ℕ) → v < length r.numbers → value_bits ssa v ≡ Some w →
    IsIn (span_at ssa v) (whole_number w (span_at ssa v) (slice_index r.numbers v))
