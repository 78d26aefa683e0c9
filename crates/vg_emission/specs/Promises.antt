-- What registers promise: that they hold the values of a pack, and that they fill an operand; and
-- what recipes and calls promise of the registers that they give.
use Rattle.std.specs.Prelude.{◌≡◌, ℕ, ◌+◌, ◌<◌, List, [], ◌∷◌, length, Option, Some, None, slice_get}
use Rattle.std.specs.List.{AllByRecursion}
use Rattle.vg_base.specs.Bits.{bits, bits_of_bytes, num}
use Rattle.vg_bits.specs.BitList.{IsBits}
use Rattle.vg_bits.specs.Range.{range, replaced}
use Rattle.vg_program.specs.Meaning.{Instructions, lane_number}
use Rattle.vg_shapes.specs.declared.operand.Operand.{Operand}
use Rattle.vg_shapes.specs.declared.operand.Slot.{Slot}
use Rattle.vg_shapes.specs.declared.pack.Pack.{Pack}
use Rattle.vg_shapes.specs.declared.pack.Pack.TheVariants.{Call}
use Rattle.vg_shapes.specs.declared.ssa.Ssa.{Ssa}
use Rattle.vg_shapes.specs.declared.wanted.Wanted.{Wanted}
use Rattle.vg_shapes.specs.declared.wanted.Wanted.TheVariants.{Value, Constant, Nothing}
use Rattle.vg_shapes.specs.Description.{Description}
use Rattle.vg_shapes.specs.Operands.{lanes_of}
use Rattle.vg_shapes.specs.RunUnits.{number_of}
use Rattle.vg_kernel_plans.specs.declared.recipe.Recipe.{Recipe}
use Rattle.vg_kernel_plans.specs.declared.recipe.Recipe.TheVariants as recipe
use Rattle.vg_kernel_plans.specs.Held.{lane_width_of, register_of}
use Rattle.vg_emission.specs.Emission.{Job, constant_bytes, description_at, operand_at, pack_at, recipe_at, takes_at, value_slots}

-- the lanes of a register from this one on, each of so many bits, have the numbers of their values
abbrev pub LanesHave : (ℕ → ℕ) → ℕ → ℕ → List (Option ℕ) → List ℕ → Type 0
LanesHave numbers w n [] register = Unit {0}
LanesHave numbers w n (None ∷ lanes) register = LanesHave numbers w (n + 1) lanes register
LanesHave numbers w n (Some v ∷ lanes) register =
    (lane_number w n register ≡ numbers v) × LanesHave numbers w (n + 1) lanes register

-- a register holds a pack: it has as many bits as the pack's, and in its lanes the pack's values
pub record Holds (ds : List Description) (ssa : Ssa) (numbers : ℕ → ℕ) (p : Pack) (register : List ℕ) : Type 0 where
  pub long : length register ≡ register_of ds ssa p
  pub bits : IsBits register
  pub lanes : LanesHave numbers (lane_width_of ds ssa p) 0 (lanes_of p) register

-- a number is what is wanted, where something is
abbrev pub IsWanted : (ℕ → ℕ) → Wanted → ℕ → Type 0
IsWanted numbers (Value v) n = n ≡ numbers v
IsWanted numbers (Constant w k) n = n ≡ k
IsWanted numbers Nothing n = Unit {0}

-- a register has in a slot what is wanted there
abbrev pub SlotHas : (ℕ → ℕ) → List ℕ → Slot → Type 0
SlotHas numbers register s = IsWanted numbers s.wanted (num (range s.low s.width register))

-- a register fills an operand: it has as many bits as the operand's, and in each slot what is wanted
pub record Fills (numbers : ℕ → ℕ) (o : Operand) (register : List ℕ) : Type 0 where
  pub long : length register ≡ o.register
  pub bits : IsBits register
  pub slots : AllByRecursion (SlotHas numbers register) o.slots

-- a register with the numbers of values put into their slots, one after the other
abbrev pub inserted : (ℕ → ℕ) → List Slot → List ℕ → List ℕ
inserted numbers [] register = register
inserted numbers (s ∷ ss) register =
    inserted numbers ss (replaced s.low (bits s.width (number_of numbers s.wanted)) register)

-- registers that hold packs of these numbers, one for each
abbrev pub AllHold : Job → (ℕ → ℕ) → List ℕ → List (List ℕ) → Type 0
AllHold j numbers [] registers = registers ≡ []
AllHold j numbers (k ∷ ks) [] = ⊥
AllHold j numbers (k ∷ ks) (r ∷ rs) =
    Holds j.descriptions j.ssa numbers (pack_at j k) r × AllHold j numbers ks rs

-- registers that fill operands of these numbers, one for each
abbrev pub AllFill : Job → (ℕ → ℕ) → List ℕ → List (List ℕ) → Type 0
AllFill j numbers [] registers = registers ≡ []
AllFill j numbers (o ∷ os) [] = ⊥
AllFill j numbers (o ∷ os) (r ∷ rs) = Fills numbers (operand_at j o) r × AllFill j numbers os rs

-- what the call of a description gives
abbrev pub answer : Instructions → Description → List (List ℕ) → List ℕ
answer called e registers = called e.name registers e.imm

-- A recipe fills an operand: the register of a pack does that holds it, that of constants, what a
-- shuffle gives of registers that hold its packs, and that of the constants with the values put in.
abbrev pub RecipeFills : Job → Instructions → (ℕ → ℕ) → Operand → Recipe → Type 0
RecipeFills j called numbers o (recipe.Reuse k) =
    (register : List ℕ) → Holds j.descriptions j.ssa numbers (pack_at j k) register →
    Fills numbers o register
RecipeFills j called numbers o (recipe.Constant bs) = Fills numbers o (bits_of_bytes bs)
RecipeFills j called numbers o (recipe.Shuffle e packs) =
    (registers : List (List ℕ)) → AllHold j numbers packs registers →
    Fills numbers o (answer called (description_at j e) registers)
RecipeFills j called numbers o recipe.Inserts =
    Fills numbers o (inserted numbers (value_slots o) (bits_of_bytes (constant_bytes o)))

-- a call holds its pack, on registers that fill its operands
abbrev pub CallHolds : Job → Instructions → (ℕ → ℕ) → List ℕ → ℕ → List (Option ℕ) → Type 0
CallHolds j called numbers takes e lanes =
    (registers : List (List ℕ)) → AllFill j numbers takes registers →
    Holds j.descriptions j.ssa numbers (Call e lanes)
    (answer called (description_at j e) registers)

-- where the values have these numbers, each recipe fills its operand and each call holds its pack
pub record KeepPromises (j : Job) (called : Instructions) (numbers : ℕ → ℕ) : Type 0 where
  pub recipes : (o : ℕ) → o < length j.operands
      → RecipeFills j called numbers (operand_at j o) (recipe_at j o)
  pub calls : (k e : ℕ) (lanes : List (Option ℕ)) → slice_get j.packs k ≡ Some (Call e lanes)
      → CallHolds j called numbers (takes_at j k) e lanes
