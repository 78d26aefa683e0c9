-- Operands of vector lines, and the lanes of packs.
use Rattle.std.specs.Prelude.{◌≡◌, ◌<◌, ◌≤◌, ℕ, ◌+◌, ◌%◌, ◌^◌, List, [], ◌∷◌, map, Option, Some, IsTrue, nat_eq}
use Rattle.std.specs.List.{list_any}
use Rattle.vg_shapes.specs.declared.operand.Operand.{Operand}
use Rattle.vg_shapes.specs.declared.operand.Slot.{Slot}
use Rattle.vg_shapes.specs.declared.pack.Pack.{Pack}
use Rattle.vg_shapes.specs.declared.pack.Pack.TheVariants.{Stores, Loads, Call}
use Rattle.vg_shapes.specs.declared.ssa.Ssa.{Ssa}
use Rattle.vg_shapes.specs.declared.wanted.Wanted.{Wanted}
use Rattle.vg_shapes.specs.declared.wanted.Wanted.TheVariants.{Value, Constant, Nothing}
use Rattle.vg_shapes.specs.Sound.{value_bits}

-- what may be wanted in a slot of a width: nothing, or a value or a constant of that width
abbrev pub MayBeWanted : Ssa → ℕ → Wanted → Type 0
MayBeWanted ssa w (Value v) = value_bits ssa v ≡ Some w
MayBeWanted ssa w (Constant m n) = (m ≡ w) × (n < 2 ^ w)
MayBeWanted ssa w Nothing = Unit {0}

-- a slot of a register of this width
pub record IsSlot (ssa : Ssa) (register : ℕ) (s : Slot) : Type 0 where
  pub width : IsTrue (list_any (nat_eq s.width) (8 ∷ 16 ∷ 32 ∷ 64 ∷ []))
  pub aligned : s.low % s.width ≡ 0
  pub inside : s.low + s.width ≤ register
  pub wanted : MayBeWanted ssa s.width s.wanted

-- slots from this bit on, each after the one before
abbrev pub AreSlots : Ssa → ℕ → ℕ → List Slot → Type 0
AreSlots ssa register low [] = Unit {0}
AreSlots ssa register low (s ∷ ss) =
    (low ≤ s.low) × IsSlot ssa register s × AreSlots ssa register (s.low + s.width) ss

pub record IsOperand (ssa : Ssa) (o : Operand) : Type 0 where
  pub register : IsTrue (list_any (nat_eq o.register) (128 ∷ 256 ∷ 512 ∷ []))
  pub slots : AreSlots ssa o.register 0 o.slots

-- the values that the lanes of a pack have, lane 0 first; a store group has none
abbrev pub lanes_of : Pack → List (Option ℕ)
lanes_of (Stores us) = []
lanes_of (Loads us) = map Some us
lanes_of (Call d lanes) = lanes
