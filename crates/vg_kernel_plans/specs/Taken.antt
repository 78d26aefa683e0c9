-- The operands that packs take.
use Rattle.std.specs.Prelude.{ℕ, suc, ◌+◌, ◌*◌, ◌/◌, ◌^◌, ◌<◌, ◌≤◌, List, [], ◌∷◌, length, map, filter, Option, Some, None, nat_eq, slice_get, if◌then◌else◌}
use Rattle.std.specs.List.{AllByRecursion}
use Rattle.std.specs.Option.{option_map_or}
use Rattle.vg_base.specs.Width.{bits_of}
use Rattle.vg_plans.specs.Levels.{distinct, sort_by}
use Rattle.vg_shapes.specs.declared.match_table.Bound.{Bound}
use Rattle.vg_shapes.specs.declared.match_table.Match.{Match}
use Rattle.vg_shapes.specs.declared.operand.Operand.{Operand}
use Rattle.vg_shapes.specs.declared.operand.Slot.{Slot}
use Rattle.vg_shapes.specs.declared.pack.Pack.{Pack}
use Rattle.vg_shapes.specs.declared.pack.Pack.TheVariants.{Stores, Loads, Call}
use Rattle.vg_shapes.specs.declared.ssa.Ssa.{Ssa}
use Rattle.vg_shapes.specs.declared.ssa_unit.SsaUnit.{SsaUnit}
use Rattle.vg_shapes.specs.declared.ssa_unit.SsaUnit.TheVariants.{Load, Store, Operation}
use Rattle.vg_shapes.specs.declared.wanted.Wanted.{Wanted}
use Rattle.vg_shapes.specs.declared.wanted.Wanted.TheVariants.{Nothing}
use Rattle.vg_shapes.specs.Description.{Description}
use Rattle.vg_shapes.specs.Leaves.{bit_number}
use Rattle.vg_shapes.specs.Pack.{bounds_from, match_at}
use Rattle.vg_shapes.specs.Units.{unit_at}
use Rattle.vg_kernel_plans.specs.SameAs.{same_slot}
use Rattle.vg_kernel_plans.specs.Wants.{slot}

-- the width in bits of the register into which so many bytes are loaded
abbrev pub register_of_bytes : ℕ → ℕ
register_of_bytes n = if nat_eq n 64 then 512 else if nat_eq n 32 then 256 else 128

-- the width in bits of what a unit loads, stores or makes
abbrev pub unit_width : Option SsaUnit → ℕ
unit_width None = 0
unit_width (Some (Load a w)) = bits_of w
unit_width (Some (Store a w x)) = bits_of w
unit_width (Some (Operation op w k xs)) = bits_of w

-- of the first of units, which have one width where they are loads or stores of a pack
abbrev pub first_width : Ssa → List ℕ → ℕ
first_width ssa [] = 0
first_width ssa (v ∷ vs) = unit_width (unit_at ssa v)

-- the width in bits of the register that holds units of this width
abbrev pub register_for : List ℕ → ℕ → ℕ
register_for us width = register_of_bytes (length us * width / 8)

-- what a store stores
abbrev pub stored : Option SsaUnit → Wanted
stored None = Nothing
stored (Some (Load a w)) = Nothing
stored (Some (Store a w x)) = x
stored (Some (Operation op w k xs)) = Nothing

-- slots of a width, one beside the other, the first at this bit
abbrev pub slots_from : ℕ → ℕ → List Wanted → List Slot
slots_from low width [] = []
slots_from low width (x ∷ xs) = slot low width x ∷ slots_from (low + width) width xs

-- what a leaf that is bound wants of its parameter
abbrev pub slot_of : Bound → Slot
slot_of b = slot (bit_number b.key.second) b.width b.wanted

-- the slots of a parameter: one for each leaf of it that is bound, by rising low bit
abbrev pub slots_of : List Bound → ℕ → List Slot
slots_of bounds k =
    sort_by (λ s. s.low) (distinct same_slot (map slot_of (filter (λ b. nat_eq b.key.first k) bounds)))

-- an operand for each parameter of these widths, of which the first has this number
abbrev pub operands_from : List Bound → ℕ → List ℕ → List Operand
operands_from bounds k [] = []
operands_from bounds k (register ∷ params) =
    record { register = register; slots = slots_of bounds k } ∷ operands_from bounds (suc k) params

-- the widths of the parameters of a description
abbrev pub params_of : List Description → ℕ → List ℕ
params_of ds d = option_map_or (λ e. e.params) (slice_get ds d) []

-- the operand of a store group: what its stores store, one slot beside the other
abbrev pub group_operand : Ssa → List ℕ → Operand
group_operand ssa us = record {
  register = register_for us (first_width ssa us);
  slots = slots_from 0 (first_width ssa us) (map (λ v. stored (unit_at ssa v)) us);
}

-- the operands of a pack: a store group takes one, a call one for each parameter
abbrev pub operands_of : List Description → List Match → Ssa → Pack → List Operand
operands_of ds matches ssa (Loads us) = []
operands_of ds matches ssa (Stores us) = group_operand ssa us ∷ []
operands_of ds matches ssa (Call d lanes) =
    operands_from (bounds_from matches d 0 lanes) 0 (params_of ds d)

-- what a lane of a call binds
abbrev pub lane_bounds : List Match → ℕ → ℕ → Option ℕ → List Bound
lane_bounds matches d lane None = []
lane_bounds matches d lane (Some v) = option_map_or (λ m. m.bound) (match_at matches d lane v) []

-- the slot of each leaf of a parameter that is bound, as lanes bind them
abbrev pub bound_slots : List Bound → ℕ → List Slot
bound_slots bounds k = map slot_of (filter (λ b. nat_eq b.key.first k) bounds)

-- leaves begin within 2 ^ 32 bits
abbrev pub AreNear : List Bound → Type 0
AreNear bounds = AllByRecursion (λ b. bit_number b.key.second < 2 ^ 32) bounds

abbrev pub MatchesNear : List Match → Type 0
MatchesNear matches = AllByRecursion (λ m. AreNear m.bound) matches

-- a pack of few lanes: at most 64 loads or stores, or fewer lanes of a call than 2 to the 32
abbrev pub IsShort : Pack → Type 0
IsShort (Stores us) = length us ≤ 64
IsShort (Loads us) = length us ≤ 64
IsShort (Call d lanes) = length lanes < 2 ^ 32
