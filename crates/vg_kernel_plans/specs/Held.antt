-- What the registers of packs hold.
use Rattle.std.specs.Prelude.{ℕ, ◌+◌, ◌&&◌, ◌||◌, not, Bool, false, List, [], ◌∷◌, Option, Some, None, nat_eq, slice_get}
use Rattle.std.specs.List.{list_all, list_any}
use Rattle.std.specs.Option.{option_map_or}
use Rattle.vg_shapes.specs.declared.operand.Operand.{Operand}
use Rattle.vg_shapes.specs.declared.operand.Slot.{Slot}
use Rattle.vg_shapes.specs.declared.pack.Pack.{Pack}
use Rattle.vg_shapes.specs.declared.pack.Pack.TheVariants.{Stores, Loads, Call}
use Rattle.vg_shapes.specs.declared.ssa.Ssa.{Ssa}
use Rattle.vg_shapes.specs.declared.wanted.Wanted.TheVariants.{Value}
use Rattle.vg_shapes.specs.Description.{Description}
use Rattle.vg_shapes.specs.Operands.{lanes_of}
use Rattle.vg_shapes.specs.Wanted.{same_wanted}
use Rattle.vg_kernel_plans.specs.SameAs.{same_slot}
use Rattle.vg_kernel_plans.specs.Taken.{first_width, register_for}
use Rattle.vg_kernel_plans.specs.Wants.{is_wanted, slot, wants_value}

-- the places of the lanes that have a value, lanes of this width from this bit on
abbrev pub lanes_from : ℕ → ℕ → List (Option ℕ) → List Slot
lanes_from low width [] = []
lanes_from low width (None ∷ lanes) = lanes_from (low + width) width lanes
lanes_from low width (Some v ∷ lanes) = slot low width (Value v) ∷ lanes_from (low + width) width lanes

-- nothing is left below a slot, and it has this width and wants this value
abbrev pub is_here : Slot → ℕ → ℕ → ℕ → Bool
is_here s below w v = nat_eq below 0 && (nat_eq s.width w && same_wanted s.wanted (Value v))

-- the same at a lane, which may have no value
abbrev pub is_at_lane : Slot → ℕ → ℕ → Option ℕ → Bool
is_at_lane s below w None = false
is_at_lane s below w (Some v) = is_here s below w v

-- the width in bits of the lanes of a pack; a store group has none
abbrev pub lane_width_of : List Description → Ssa → Pack → ℕ
lane_width_of ds ssa (Stores us) = 0
lane_width_of ds ssa (Loads us) = first_width ssa us
lane_width_of ds ssa (Call d lanes) = option_map_or (λ e. e.lane_width) (slice_get ds d) 0

-- the values that a pack holds, each at its place
abbrev pub held_slots : List Description → Ssa → Pack → List Slot
held_slots ds ssa p = lanes_from 0 (lane_width_of ds ssa p) (lanes_of p)

-- the width in bits of the register of a pack; a store group has none
abbrev pub register_of : List Description → Ssa → Pack → ℕ
register_of ds ssa (Stores us) = 0
register_of ds ssa (Loads us) = register_for us (first_width ssa us)
register_of ds ssa (Call d lanes) = option_map_or (λ e. e.register) (slice_get ds d) 0

-- a slot wants nothing, or a value that the pack has at that place
abbrev pub is_filled : List Description → Ssa → Pack → Slot → Bool
is_filled ds ssa p s =
    not (is_wanted s.wanted)
    || (wants_value s.wanted && list_any (same_slot s) (held_slots ds ssa p))

-- A pack holds an operand: it has a register of that width, and each slot that wants something wants
-- a value that the pack has at that place. An operand that wants nothing is held by none.
abbrev pub holds : List Description → Ssa → Pack → Operand → Bool
holds ds ssa p o =
    nat_eq (register_of ds ssa p) o.register
    && (list_any (λ s. is_wanted s.wanted) o.slots && list_all (is_filled ds ssa p) o.slots)
