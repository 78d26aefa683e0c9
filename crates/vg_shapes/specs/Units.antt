-- The units of a kernel: their numbers, and what they take.
use Rattle.std.specs.Prelude.{ℕ, ◌-◌, List, length, filter, Bool, true, false, ◌||◌, Option, Some, None, slice_get, nat_eq, nat_lt, if◌then◌else◌}
use Rattle.std.specs.Option.{is_some}
use Rattle.vg_shapes.specs.declared.ssa.SsaParam.{SsaParam}
use Rattle.vg_shapes.specs.declared.ssa.SsaParamKind.{SsaParamKind}
use Rattle.vg_shapes.specs.declared.ssa.SsaParamKind.TheVariants.{Pointer, Integer}
use Rattle.vg_shapes.specs.declared.ssa.Ssa.{Ssa}
use Rattle.vg_shapes.specs.declared.ssa_unit.Operands.{Operands}
use Rattle.vg_shapes.specs.declared.ssa_unit.SsaUnit.{SsaUnit}
use Rattle.vg_shapes.specs.declared.ssa_unit.SsaUnit.TheVariants.{Load, Store, Operation}
use Rattle.vg_shapes.specs.declared.wanted.Wanted.{Wanted}
use Rattle.vg_shapes.specs.declared.wanted.Wanted.TheVariants.{Value, Constant, Nothing}

abbrev pub is_integer : SsaParamKind → Bool
is_integer (Pointer noalias) = false
is_integer (Integer w) = true

-- the parameters that are integers, in order
abbrev pub integers_of : List SsaParam → List SsaParam
integers_of params = filter (λ p. is_integer p.kind) params

abbrev pub integers : Ssa → List SsaParam
integers ssa = integers_of ssa.params

-- how many there are; they have the first numbers
abbrev pub arguments : Ssa → ℕ
arguments ssa = length (integers ssa)

-- the unit of a number; the units are numbered after the integer parameters
abbrev pub unit_at : Ssa → ℕ → Option SsaUnit
unit_at ssa v = if nat_lt v (arguments ssa) then None else slice_get ssa.units (v - arguments ssa)

abbrev pub is_unit : Ssa → ℕ → Bool
is_unit ssa v = is_some (unit_at ssa v)

-- an operand is the value of this number
abbrev pub is_value : ℕ → Wanted → Bool
is_value v (Value x) = nat_eq x v
is_value v (Constant w n) = false
is_value v Nothing = false

-- the value of this number is among operands
abbrev pub is_among : ℕ → Operands → Bool
is_among v xs = is_value v xs.first || (is_value v xs.second || is_value v xs.third)

-- a unit uses the value of this number
abbrev pub uses_value : ℕ → SsaUnit → Bool
uses_value v (Load a w) = false
uses_value v (Store a w x) = is_value v x
uses_value v (Operation op w k xs) = is_among v xs
