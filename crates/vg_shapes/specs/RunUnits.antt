-- What the units of a kernel do, one after the other, to memory and the numbers of the values. None
-- is a trap: an access outside the memory.
use Rattle.std.specs.Prelude.{ℕ, List, [], ◌∷◌, ◌++◌, Option, Some, None, slice_index}
use Rattle.vg_base.specs.Address.{place_of}
use Rattle.vg_base.specs.Bits.{number, bytes}
use Rattle.vg_base.specs.Memory.{loaded, stored}
use Rattle.vg_base.specs.Trap.{◌>>=◌}
use Rattle.vg_base.specs.Width.{bits_of, size_of}
use Rattle.vg_scalar.specs.Scalar.{two_result, shift_result, resize_result, comparison_result, select_result}
use Rattle.vg_shapes.specs.declared.ssa_unit.Operands.{Operands}
use Rattle.vg_shapes.specs.declared.ssa_unit.Operator.{Operator}
use Rattle.vg_shapes.specs.declared.ssa_unit.Operator.TheVariants.{Two, Shift, Resize, Compare, Select}
use Rattle.vg_shapes.specs.declared.ssa_unit.SsaUnit.{SsaUnit}
use Rattle.vg_shapes.specs.declared.ssa_unit.SsaUnit.TheVariants.{Load, Store, Operation}
use Rattle.vg_shapes.specs.declared.wanted.Wanted.{Wanted}
use Rattle.vg_shapes.specs.declared.wanted.Wanted.TheVariants.{Value, Constant, Nothing}

-- the number of an operand, where the values have these numbers
abbrev pub number_of : (ℕ → ℕ) → Wanted → ℕ
number_of numbers (Value v) = numbers v
number_of numbers (Constant w n) = n
number_of numbers Nothing = 0

-- what an operation of a width in bits and an amount makes of the numbers of its operands
abbrev pub operation_result : Operator → ℕ → ℕ → ℕ → ℕ → ℕ → ℕ
operation_result (Two op) w k a b c = two_result op w a b
operation_result (Shift op) w k a b c = shift_result op w k a
operation_result (Resize op v) w k a b c = resize_result op w (bits_of v) a
operation_result (Compare op) w k a b c = comparison_result op w a b
operation_result Select w k a b c = select_result a b c

-- the same of operands, where the values have these numbers
abbrev pub result_of : (ℕ → ℕ) → Operator → ℕ → ℕ → Operands → ℕ
result_of numbers op w k xs =
    operation_result op w k (number_of numbers xs.first) (number_of numbers xs.second)
    (number_of numbers xs.third)

-- memory, and the numbers of the values so far
pub record Reached : Type 0 where
  pub memory : List ℕ
  pub numbers : List ℕ

abbrev pub reached : List ℕ → List ℕ → ℕ → Reached
reached memory numbers n = record { memory = memory; numbers = numbers ++ n ∷ [] }

-- one unit more; a store has no value, and 0 stands in its place
abbrev pub unit_run : List ℕ → SsaUnit → Reached → Option Reached
unit_run places (Load a w) r =
    loaded r.memory (place_of places a) (size_of w) >>= λ read.
    Some (reached r.memory r.numbers (number read))
unit_run places (Store a w x) r =
    stored r.memory (place_of places a) (bytes (size_of w) (number_of (slice_index r.numbers) x))
    >>= λ memory.
    Some (reached memory r.numbers 0)
unit_run places (Operation op w k xs) r =
    Some (reached r.memory r.numbers (result_of (slice_index r.numbers) op (bits_of w) k xs))

-- the units in order, up to a trap
unfoldable pub run_units : List ℕ → List SsaUnit → Reached → Option Reached
run_units places [] r = Some r
run_units places (u ∷ us) r = unit_run places u r >>= run_units places us

-- what stands before the first unit: memory, and the integer parameters
abbrev pub start_of : List ℕ → List ℕ → Reached
start_of memory args = record { memory = memory; numbers = args }
