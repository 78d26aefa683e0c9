-- Lanes beside the slots that an operand wants.
use Rattle.std.specs.Prelude.{ℕ, ◌/◌, ◌&&◌, nat_eq, Bool, true, false, List, [], ◌∷◌, Option, Some, None, filter, is_some}
use Rattle.vg_kernel_plans.specs.SameAs.{same_slot}
use Rattle.vg_kernel_plans.specs.Wants.{slot, value_of}
use Rattle.vg_shapes.specs.declared.match_table.Match.{Match}
use Rattle.vg_shapes.specs.declared.operand.Slot.{Slot}
use Rattle.vg_shapes.specs.declared.wanted.Wanted.TheVariants.{Value}
use Rattle.vg_shapes.specs.Pack.{match_at}

-- a lane has no value, or is the first of these slots
abbrev pub begins_with : List Slot → ℕ → ℕ → Option ℕ → Bool
begins_with wanted low width None = true
begins_with [] low width (Some v) = false
begins_with (s ∷ ss) low width (Some v) = same_slot s (slot low width (Value v))

-- the slots after a lane
abbrev pub rest_behind : List Slot → Option ℕ → List Slot
rest_behind wanted None = wanted
rest_behind [] (Some v) = []
rest_behind (s ∷ ss) (Some v) = ss

-- a lane of a description matches the value that it has, if any
abbrev pub is_matched : List Match → ℕ → ℕ → Option ℕ → Bool
is_matched matches d lane None = true
is_matched matches d lane (Some v) = is_some (match_at matches d lane v)

-- a slot is a lane of this width of a description, and matches what it wants
abbrev pub fits_lane : List Match → Slot → ℕ → ℕ → Bool
fits_lane matches s d width =
    nat_eq s.width width && is_matched matches d (s.low / width) (value_of s.wanted)

-- the first of these slots, if any, fits a lane of a description
abbrev pub can_begin : List Match → List Slot → ℕ → ℕ → Bool
can_begin matches [] d width = true
can_begin matches (s ∷ ss) d width = fits_lane matches s d width

-- the matches of a value, if there is one
abbrev pub matches_of : List Match → Option ℕ → List Match
matches_of matches None = []
matches_of matches (Some v) = filter (λ m. nat_eq m.value v) matches

-- the matches of what the first of these slots wants: of a call in these slots one is among them
abbrev pub beginnings : List Match → List Slot → List Match
beginnings matches [] = []
beginnings matches (s ∷ ss) = matches_of matches (value_of s.wanted)
