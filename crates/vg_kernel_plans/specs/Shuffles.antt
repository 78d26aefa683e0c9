-- Shuffles: instances whose lanes move parts of their parameters.
use Rattle.std.specs.Prelude.{ℕ, suc, ◌+◌, ◌/◌, ◌%◌, ◌&&◌, Bool, true, false, List, [], ◌∷◌, length, map, filter, Option, Some, None, nat_eq, nat_le, slice_get, if◌then◌else◌}
use Rattle.std.specs.List.{flat_map, list_all}
use Rattle.vg_terms.specs.Term.{Tree, leaf, constant, one, two, sel}
use Rattle.vg_shapes.specs.declared.operand.Operand.{Operand}
use Rattle.vg_shapes.specs.declared.operand.Slot.{Slot}
use Rattle.vg_shapes.specs.Description.{Description}
use Rattle.vg_shapes.specs.Leaves.{bit_number}
use Rattle.vg_kernel_plans.specs.Wants.{slot, wanted_slots, wants_value}

-- a lane is a leaf or the constant 0
abbrev pub is_moved : Tree → Bool
is_moved (leaf w k) = true
is_moved (constant w n) = nat_eq n 0
is_moved (one op w k x) = false
is_moved (two op w x y) = false
is_moved (sel w c x y) = false

-- all lanes are, and the parameters have one width
abbrev pub is_shuffle : Description → Bool
is_shuffle e = list_all is_moved e.lanes && list_all (λ x. list_all (nat_eq x) e.params) e.params

-- the leaf that stands for a lane, as a parameter and a slot of it that wants what the lane is to be
abbrev pub moved_leaf : Option Tree → Slot → List (ℕ × Slot)
moved_leaf None s = []
moved_leaf (Some (leaf w k)) s = (k.first, slot (bit_number k.second) w s.wanted) ∷ []
moved_leaf (Some (constant w n)) s = []
moved_leaf (Some (one op w k x)) s = []
moved_leaf (Some (two op w x y)) s = []
moved_leaf (Some (sel w c x y)) s = []

-- of the lane of a slot
abbrev pub moved_from : Description → Slot → List (ℕ × Slot)
moved_from e s = moved_leaf (slice_get e.lanes (s.low / e.lane_width)) s

-- what the pack given to each parameter in use has to hold, the first having this number
abbrev pub parts_from : List (ℕ × Slot) → ℕ → List ℕ → List Operand
parts_from moved k [] = []
parts_from moved k (register ∷ params) =
    let own = map (λ m. m.1) (filter (λ m. nat_eq m.0 k) moved) in
    if nat_eq (length own) 0 then parts_from moved (suc k) params
    else record { register = register; slots = own } ∷ parts_from moved (suc k) params

-- a slot of a value that is a lane of this width
abbrev pub is_lane_slot : ℕ → Slot → Bool
is_lane_slot width s =
    wants_value s.wanted && (nat_eq s.width width && nat_eq (s.low % width) 0)

-- A shuffle that can make an operand, as its cost and what is to be held for its parameters: the
-- result has the operand's width, and each slot that wants something wants a value and is a lane
-- that is a leaf. It costs no more than inserts do.
abbrev pub shuffle_of : Operand → Description → List (ℕ × List Operand)
shuffle_of o e =
    let moved = flat_map (moved_from e) (wanted_slots o) in
    if is_shuffle e
    && (nat_eq e.register o.register
    && (list_all (is_lane_slot e.lane_width) (wanted_slots o)
    && (nat_eq (length moved) (length (wanted_slots o))
    && nat_le e.cost (1 + length (wanted_slots o)))))
    then (e.cost, parts_from moved 0 e.params) ∷ []
    else []

abbrev pub shuffles : List Description → Operand → List (ℕ × List Operand)
shuffles ds o = flat_map (shuffle_of o) ds
