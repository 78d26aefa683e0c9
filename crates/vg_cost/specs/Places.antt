-- Where in registers values stand, by marks, and which shuffles need not be looked at.
use Rattle.std.specs.Prelude.{ℕ, ◌+◌, ◌*◌, ◌/◌, ◌%◌, ◌&&◌, ◌||◌, not, Bool, true, false, List, [], ◌∷◌, ◌++◌, length, Option, Some, None, get_or, nat_eq, nat_le, nat_lt}
use Rattle.std.specs.List.{flat_map, list_all, list_any}
use Rattle.vg_plans.specs.World.{is_in}
use Rattle.vg_shapes.specs.declared.operand.Operand.{Operand}
use Rattle.vg_shapes.specs.declared.operand.Slot.{Slot}
use Rattle.vg_shapes.specs.declared.pack.Pack.{Pack}
use Rattle.vg_shapes.specs.declared.ssa.Ssa.{Ssa}
use Rattle.vg_shapes.specs.declared.wanted.Wanted.{Wanted}
use Rattle.vg_shapes.specs.declared.wanted.Wanted.TheVariants.{Value, Constant, Nothing}
use Rattle.vg_shapes.specs.Description.{Description}
use Rattle.vg_shapes.specs.Operands.{lanes_of}
use Rattle.vg_shapes.specs.Pack.{units_of}
use Rattle.vg_kernel_plans.specs.Held.{lane_width_of}
use Rattle.vg_kernel_plans.specs.Shuffles.{moved_from}
use Rattle.vg_kernel_plans.specs.Wants.{is_wanted}
use Rattle.vg_cost.specs.Marks.{Has}

-- the number of a value at a byte of a register, of 64 bytes
abbrev pub place : ℕ → ℕ → ℕ
place v low = v * 64 + low / 8

abbrev pub places_at : ℕ → Option ℕ → List ℕ
places_at low None = []
places_at low (Some v) = place v low ∷ []

-- of the values in lanes of a width, the first at a bit
abbrev pub places_from : ℕ → ℕ → List (Option ℕ) → List ℕ
places_from low width [] = []
places_from low width (lane ∷ lanes) =
    places_at low lane ++ places_from ((low + width) % 512) width lanes

abbrev pub places_of : List Description → Ssa → Pack → List ℕ
places_of ds ssa p = places_from 0 (lane_width_of ds ssa p) (lanes_of p)

-- the marks are those of the places of all values of a plan
abbrev pub ArePlaces : List Description → Ssa → List Pack → List Bool → Type 0
ArePlaces ds ssa plan marks = Has (length marks) (flat_map (places_of ds ssa) plan) marks

-- by the marks a value that is wanted at a bit may stand there
abbrev pub may_stand : List Bool → Wanted → ℕ → Bool
may_stand marks (Value v) low =
    not (nat_lt (place v (low % 512)) (length marks)) || get_or marks (place v (low % 512)) false
may_stand marks (Constant w n) low = false
may_stand marks Nothing low = false

-- a shuffle may have what a slot wants: its lane is a leaf that may stand in a pack
abbrev pub may_move : List Bool → Description → Slot → Bool
may_move marks e s =
    not (is_wanted s.wanted)
    || (nat_eq s.width e.lane_width
    && list_any (λ m. nat_le (length e.params) m.0 || may_stand marks m.1.wanted m.1.low) (moved_from e s))

abbrev pub may_have : List Bool → Operand → Description → Bool
may_have marks o e = nat_eq e.register o.register && list_all (may_move marks e) o.slots

-- a value that is wanted is a unit of a pack
abbrev pub is_met : List Pack → Wanted → Bool
is_met plan (Value v) = list_any (λ p. is_in v (units_of p)) plan
is_met plan (Constant w n) = true
is_met plan Nothing = true

-- all values of an operand are
abbrev pub are_met : List Pack → Operand → Bool
are_met plan o = list_all (λ s. is_met plan s.wanted) o.slots
