-- What a form may be made of.
use Rattle.std.specs.Prelude.{◌<◌, ◌≤◌, ◌^◌, ℕ, Option, Some, None}
use Rattle.vg_base.specs.declared.width.Width.{Width}
use Rattle.vg_base.specs.Width.{bits_of}
use Rattle.vg_rewrite.specs.declared.form.Form.{Form}
use Rattle.vg_rewrite.specs.declared.form.Form.TheVariants.{Own, Zero, Same, Whole, Cut}
use Rattle.vg_shapes.specs.declared.ssa_unit.Operands.{Operands}
use Rattle.vg_shapes.specs.declared.ssa_unit.Operator.{Operator}
use Rattle.vg_shapes.specs.declared.ssa_unit.Operator.TheVariants.{Two, Shift, Resize, Compare, Select}
use Rattle.vg_shapes.specs.declared.ssa_unit.SsaUnit.{SsaUnit}
use Rattle.vg_shapes.specs.declared.ssa_unit.SsaUnit.TheVariants.{Load, Store, Operation}
use Rattle.vg_shapes.specs.declared.wanted.Wanted.{Wanted}
use Rattle.vg_shapes.specs.declared.wanted.Wanted.TheVariants.{Value, Constant, Nothing}
use Rattle.vg_spans.specs.Operand.{IsOperand}

-- constants are below 2 to their widths, and a shift is by fewer places than there are bits
abbrev pub FormsAreRead : Operator → Width → ℕ → Operands → Type 0
FormsAreRead (Two op) w k xs = IsOperand (bits_of w) xs.first × IsOperand (bits_of w) xs.second
FormsAreRead (Shift op) w k xs = (k < bits_of w) × IsOperand (bits_of w) xs.first
FormsAreRead (Resize op v) w k xs = Unit {0}
FormsAreRead (Compare op) w k xs = IsOperand (bits_of w) xs.first × IsOperand (bits_of w) xs.second
FormsAreRead Select w k xs = Unit {0}

abbrev pub UnitIsRead : Option SsaUnit → Type 0
UnitIsRead None = Unit {0}
UnitIsRead (Some (Load a w)) = Unit {0}
UnitIsRead (Some (Store a w x)) = Unit {0}
UnitIsRead (Some (Operation op w k xs)) = FormsAreRead op w k xs

-- a constant has from 1 to 64 bits
abbrev pub IsWord : Wanted → Type 0
IsWord (Value v) = Unit {0}
IsWord (Constant m n) = (1 ≤ m) × (m ≤ 64) × (n < 2 ^ m)
IsWord Nothing = Unit {0}

-- this holds of each operand
abbrev pub AreOver : (Wanted → Type 0) → Operands → Type 0
AreOver P xs = P xs.first × P xs.second × P xs.third

abbrev pub AreWords : Operands → Type 0
AreWords xs = AreOver IsWord xs

abbrev pub UnitHasWords : Option SsaUnit → Type 0
UnitHasWords None = Unit {0}
UnitHasWords (Some (Load a w)) = Unit {0}
UnitHasWords (Some (Store a w x)) = IsWord x
UnitHasWords (Some (Operation op w k xs)) = AreWords xs

-- this holds of what a form is made of
abbrev pub FormOver : (Wanted → Type 0) → Form → Type 0
FormOver P Own = Unit {0}
FormOver P Zero = Unit {0}
FormOver P (Same x) = P x
FormOver P (Whole m) = AreOver P m.operands
FormOver P (Cut m) = AreOver P m.operands

abbrev pub FormHasWords : Form → Type 0
FormHasWords f = FormOver IsWord f

-- what the forms of a unit are made of can be read
abbrev pub UnitIsNarrowed : SsaUnit → Type 0
UnitIsNarrowed u = UnitIsRead (Some u) × UnitHasWords (Some u)
