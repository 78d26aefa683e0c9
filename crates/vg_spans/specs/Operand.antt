-- What the operands of a unit may be.
use Rattle.std.specs.Prelude.{◌≡◌, ◌<◌, ◌^◌, ℕ}
use Rattle.vg_base.specs.declared.width.Width.{Width}
use Rattle.vg_base.specs.Width.{bits_of}
use Rattle.vg_shapes.specs.declared.ssa_unit.Operands.{Operands}
use Rattle.vg_shapes.specs.declared.ssa_unit.Operator.{Operator}
use Rattle.vg_shapes.specs.declared.ssa_unit.Operator.TheVariants.{Two, Shift, Resize, Compare, Select}
use Rattle.vg_shapes.specs.declared.ssa_unit.SsaUnit.{SsaUnit}
use Rattle.vg_shapes.specs.declared.ssa_unit.SsaUnit.TheVariants.{Load, Store, Operation}
use Rattle.vg_shapes.specs.declared.wanted.Wanted.{Wanted}
use Rattle.vg_shapes.specs.declared.wanted.Wanted.TheVariants.{Value, Constant, Nothing}

-- a constant that is an operand of w bits is below 2 to w
abbrev pub IsOperand : ℕ → Wanted → Type 0
IsOperand w (Value v) = Unit {0}
IsOperand w (Constant m n) = (m ≡ w) × (n < 2 ^ w)
IsOperand w Nothing = Unit {0}

-- the operands that the span of an operation is made of, and the amount of a shift
abbrev pub OperandsAreRead : Operator → Width → ℕ → Operands → Type 0
OperandsAreRead (Two op) w k xs = IsOperand (bits_of w) xs.first × IsOperand (bits_of w) xs.second
OperandsAreRead (Shift op) w k xs = (k < bits_of w) × IsOperand (bits_of w) xs.first
OperandsAreRead (Resize op v) w k xs = IsOperand (bits_of v) xs.first
OperandsAreRead (Compare op) w k xs = Unit {0}
OperandsAreRead Select w k xs = IsOperand (bits_of w) xs.second × IsOperand (bits_of w) xs.third

abbrev pub IsRead : SsaUnit → Type 0
IsRead (Load a w) = Unit {0}
IsRead (Store a w x) = Unit {0}
IsRead (Operation op w k xs) = OperandsAreRead op w k xs
