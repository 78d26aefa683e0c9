-- The packs that produce an operand.
use Rattle.std.specs.Prelude.{ℕ, zero, suc, ◌+◌, ◌*◌, ◌/◌, ◌&&◌, not, Bool, true, false, List, [], ◌∷◌, ◌++◌, length, map, Option, Some, None, is_some, nat_eq, nat_le, find, if◌then◌else◌}
use Rattle.std.specs.Cmp.Lexicographic.{pointwise}
use Rattle.std.specs.List.{list_all, list_any}
use Rattle.std.specs.Ordering.{int_eq}
use Rattle.vg_base.specs.declared.address.Address.{Address}
use Rattle.vg_base.specs.declared.width.Width.{Width}
use Rattle.vg_base.specs.Width.{bits_of, size_of}
use Rattle.vg_shapes.specs.declared.match_table.Match.{Match}
use Rattle.vg_shapes.specs.declared.operand.Operand.{Operand}
use Rattle.vg_shapes.specs.declared.operand.Slot.{Slot}
use Rattle.vg_shapes.specs.declared.pack.Pack.{Pack}
use Rattle.vg_shapes.specs.declared.pack.Pack.TheVariants.{Loads, Call}
use Rattle.vg_shapes.specs.declared.ssa.Ssa.{Ssa}
use Rattle.vg_shapes.specs.declared.ssa_unit.SsaUnit.{SsaUnit}
use Rattle.vg_shapes.specs.declared.ssa_unit.SsaUnit.TheVariants.{Load, Store, Operation}
use Rattle.vg_shapes.specs.Description.{Description}
use Rattle.vg_shapes.specs.Pack.{behind, is_pack_size, match_at}
use Rattle.vg_shapes.specs.Units.{unit_at}
use Rattle.vg_kernel_plans.specs.Held.{lanes_from}
use Rattle.vg_kernel_plans.specs.SameAs.{same_slot}
use Rattle.vg_kernel_plans.specs.Taken.{first_width, operands_of, register_for}
use Rattle.vg_kernel_plans.specs.Wants.{value_of, wanted_slots, wanted_values, wants_value}

-- a unit is the load of a width from an address
abbrev pub loads_from : Address → Width → Option SsaUnit → Bool
loads_from a w None = false
loads_from a w (Some (Store b v x)) = false
loads_from a w (Some (Operation op v k xs)) = false
loads_from a w (Some (Load b v)) =
    nat_eq b.pointer a.pointer && (int_eq b.offset a.offset && nat_eq (bits_of v) (bits_of w))

-- loads consecutive in memory, the first from this address
abbrev pub are_loads : Ssa → Address → Width → List ℕ → Bool
are_loads ssa a w [] = true
are_loads ssa a w (v ∷ vs) =
    loads_from a w (unit_at ssa v) && are_loads ssa (behind a (size_of w)) w vs

-- the same, from where the first of them loads
abbrev pub begin_loads : Ssa → Option SsaUnit → List ℕ → Bool
begin_loads ssa None us = false
begin_loads ssa (Some (Store a w x)) us = false
begin_loads ssa (Some (Operation op w k xs)) us = false
begin_loads ssa (Some (Load a w)) us = are_loads ssa a w us

abbrev pub are_beside : Ssa → List ℕ → Bool
are_beside ssa [] = false
are_beside ssa (v ∷ vs) = begin_loads ssa (unit_at ssa v) (v ∷ vs)

-- no number stands twice
abbrev pub all_differ : List ℕ → Bool
all_differ [] = true
all_differ (v ∷ vs) = not (list_any (nat_eq v) vs) && all_differ vs

-- a pack can have what an operand wants: at least two values, none twice, and no constant
abbrev pub can_be_produced : Operand → Bool
can_be_produced o =
    nat_le 2 (length (wanted_slots o))
    && (list_all (λ s. wants_value s.wanted) (wanted_slots o)
    && all_differ (wanted_values o))

-- the load pack whose lanes are exactly the slots that want something
abbrev pub load_producer : Ssa → Operand → List Pack
load_producer ssa o =
    let us = wanted_values o in
    let width = first_width ssa us in
    if can_be_produced o
    && (is_pack_size (length us * width / 8)
    && (nat_eq (register_for us width) o.register
    && (pointwise same_slot (wanted_slots o) (lanes_from 0 width (map Some us))
    && are_beside ssa us)))
    then Loads us ∷ []
    else []

-- the value that is wanted at a place, if any
abbrev pub value_at : Option Slot → Option ℕ
value_at None = None
value_at (Some s) = value_of s.wanted

-- so many lanes of this width from this bit on, each with what the slot of its place wants
abbrev pub lanes_for : ℕ → ℕ → ℕ → List Slot → List (Option ℕ)
lanes_for zero low width slots = []
lanes_for (suc n) low width slots =
    value_at (find (λ s. nat_eq s.low low && nat_eq s.width width) slots)
    ∷ lanes_for n (low + width) width slots

-- each lane that has a value matches it, the first lane having this number
abbrev pub are_matched : List Match → ℕ → ℕ → List (Option ℕ) → Bool
are_matched matches d lane [] = true
are_matched matches d lane (None ∷ lanes) = are_matched matches d (suc lane) lanes
are_matched matches d lane (Some v ∷ lanes) =
    is_some (match_at matches d lane v) && are_matched matches d (suc lane) lanes

-- no two slots stand at one bit: lanes that bind one leaf agree
abbrev pub agree : List Slot → Bool
agree [] = true
agree (s ∷ ss) = not (list_any (λ t. nat_eq s.low t.low) ss) && agree ss

-- the call of an instance whose matched lanes are exactly the slots that want something
abbrev pub call_producer : List Description → List Match → Ssa → Operand → ℕ → Description → List Pack
call_producer ds matches ssa o d e =
    let lanes = lanes_for (e.register / e.lane_width) 0 e.lane_width o.slots in
    if can_be_produced o
    && (nat_eq e.register o.register
    && (pointwise same_slot (wanted_slots o) (lanes_from 0 e.lane_width lanes)
    && (are_matched matches d 0 lanes
    && list_all (λ q. agree q.slots) (operands_of ds matches ssa (Call d lanes)))))
    then Call d lanes ∷ []
    else []

-- the calls of the instances from this number on
abbrev pub call_producers : List Description → List Match → Ssa → Operand → ℕ → List Description → List Pack
call_producers ds matches ssa o d [] = []
call_producers ds matches ssa o d (e ∷ es) =
    call_producer ds matches ssa o d e ++ call_producers ds matches ssa o (suc d) es

-- the load pack, then the calls in the order of the instances
abbrev pub producers : List Description → List Match → Ssa → Operand → List Pack
producers ds matches ssa o = load_producer ssa o ++ call_producers ds matches ssa o 0 ds
