-- When a pack produces an operand, and when it holds one.
use Rattle.std.specs.Prelude.{◌≡◌, ◌<◌, ◌≤◌, ℕ, ◌*◌, true, List, [], ◌∷◌, length, Option, Some, nat_eq, slice_get}
use Rattle.vg_plans.specs.Members.{AllDiffer, Every, Has}
use Rattle.vg_terms.specs.Term.{Tree}
use Rattle.vg_shapes.specs.declared.match_table.Bound.{Bound}
use Rattle.vg_shapes.specs.declared.match_table.Match.{Match}
use Rattle.vg_shapes.specs.declared.operand.Operand.{Operand}
use Rattle.vg_shapes.specs.declared.operand.Slot.{Slot}
use Rattle.vg_shapes.specs.declared.pack.Pack.{Pack}
use Rattle.vg_shapes.specs.declared.pack.Pack.TheVariants.{Stores, Loads, Call}
use Rattle.vg_shapes.specs.declared.ssa.Ssa.{Ssa}
use Rattle.vg_shapes.specs.declared.wanted.Wanted.TheVariants.{Value}
use Rattle.vg_shapes.specs.Description.{Description}
use Rattle.vg_shapes.specs.Fits.{FitsWide}
use Rattle.vg_shapes.specs.Leaves.{bit_number}
use Rattle.vg_shapes.specs.Matches.{lane_at}
use Rattle.vg_shapes.specs.Operands.{lanes_of}
use Rattle.vg_shapes.specs.Pack.{IsLoadPack, match_at, units_of}
use Rattle.vg_kernel_plans.specs.Held.{lane_width_of, register_of}
use Rattle.vg_kernel_plans.specs.Taken.{slot_of}
use Rattle.vg_kernel_plans.specs.Wants.{is_wanted, slot}

-- a lane has this value, lane 0 first; a lane may have none
abbrev pub HasLane : List (Option ℕ) → ℕ → ℕ → Type 0
HasLane lanes i v = slice_get lanes i ≡ Some (Some v)

-- the term of a lane of an instance, both by number, fits a value: whole, else cut, else turned
abbrev pub LaneFits : List Description → Ssa → ℕ → ℕ → ℕ → Type 0
LaneFits ds ssa d i v =
    (t : Tree) × (bound : List Bound) × (lane_at ds d i ≡ Some t) × FitsWide ssa t v bound

-- a lane of a call, matched with its value, binds a leaf
abbrev pub Binds : List Match → ℕ → List (Option ℕ) → Bound → Type 0
Binds matches d lanes b =
    (i : ℕ) × (v : ℕ) × (m : Match) × HasLane lanes i v
    × (match_at matches d i v ≡ Some m)
    × Has b m.bound

-- Lanes that bind one leaf agree: leaves of one parameter that begin at one bit are of one width
-- and want the same.
abbrev pub LanesAgree : List Match → ℕ → List (Option ℕ) → Type 0
LanesAgree matches d lanes =
    (b c : Bound) → Binds matches d lanes b → Binds matches d lanes c →
    b.key.first ≡ c.key.first →
    bit_number b.key.second ≡ bit_number c.key.second →
    slot_of b ≡ slot_of c

-- a call pack: an instance with a fitting value in at least two of its lanes, and nothing in the
-- others
pub record IsCallPack
    (ds : List Description) (matches : List Match) (ssa : Ssa) (d : ℕ) (lanes : List (Option ℕ))
    : Type 0 where
  pub instance : Description
  pub listed : slice_get ds d ≡ Some instance
  pub long : length lanes ≡ length instance.lanes
  pub fit : (i v : ℕ) → HasLane lanes i v → LaneFits ds ssa d i v
  pub two : 2 ≤ length (units_of (Call d lanes))
  pub agree : LanesAgree matches d lanes

-- a pack that leaves a register: a load pack or a call pack
abbrev pub LeavesRegister : List Description → List Match → Ssa → Pack → Type 0
LeavesRegister ds matches ssa (Stores us) = ⊥
LeavesRegister ds matches ssa (Loads us) = IsLoadPack ssa us
LeavesRegister ds matches ssa (Call d lanes) = IsCallPack ds matches ssa d lanes

-- a slot is a lane of a pack: it stands where the lane does, is as wide, and wants its value
abbrev pub IsLaneSlot : List Description → Ssa → Pack → Slot → Type 0
IsLaneSlot ds ssa p s =
    (i : ℕ) × (v : ℕ) × HasLane (lanes_of p) i v
    × (s ≡ slot (i * lane_width_of ds ssa p) (lane_width_of ds ssa p) (Value v))

-- A pack produces an operand: its register is as wide, and its lanes are exactly the slots that
-- want something. So each of these wants a value, and no lane is matched that no slot wants.
pub record Produces
    (ds : List Description) (matches : List Match) (ssa : Ssa) (p : Pack) (o : Operand)
    : Type 0 where
  pub pack : LeavesRegister ds matches ssa p
  -- no unit stands in the pack twice
  pub once : AllDiffer nat_eq (units_of p)
  pub register : register_of ds ssa p ≡ o.register
  pub wanted : (s : Slot) → Has s o.slots → is_wanted s.wanted ≡ true → IsLaneSlot ds ssa p s
  pub lanes : (s : Slot) → IsLaneSlot ds ssa p s → Has s o.slots

-- A pack holds an operand: its register is as wide, and each slot that wants something is a lane of
-- it. Some slot does, as an operand that wants nothing is held by no pack.
pub record Holds (ds : List Description) (ssa : Ssa) (p : Pack) (o : Operand) : Type 0 where
  pub register : register_of ds ssa p ≡ o.register
  pub some : (s : Slot) × Has s o.slots × (is_wanted s.wanted ≡ true)
  pub wanted : (s : Slot) → Has s o.slots → is_wanted s.wanted ≡ true → IsLaneSlot ds ssa p s

-- slots by rising low bit, no two at one bit
abbrev pub AreRising : List Slot → Type 0
AreRising [] = Unit {0}
AreRising (s ∷ ss) = Every (λ t. s.low < t.low) ss × AreRising ss
