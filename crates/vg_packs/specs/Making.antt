-- When loads, and when a call, can be what an operand wants.
use Rattle.std.specs.Prelude.{ℕ, ◌*◌, ◌/◌, ◌&&◌, Bool, List, [], length, map, Option, Some, nat_eq, nat_le}
use Rattle.std.specs.Cmp.Lexicographic.{pointwise}
use Rattle.std.specs.List.{list_all, slice_get}
use Rattle.std.specs.Option.{option_map_or}
use Rattle.vg_kernel_plans.specs.Held.{lanes_from}
use Rattle.vg_kernel_plans.specs.Producers.{agree, all_differ, are_beside, are_matched, call_producer}
use Rattle.vg_kernel_plans.specs.SameAs.{same_slot}
use Rattle.vg_kernel_plans.specs.Taken.{first_width, operands_of, register_for}
use Rattle.vg_kernel_plans.specs.Wants.{wants_value}
use Rattle.vg_shapes.specs.declared.match_table.Match.{Match}
use Rattle.vg_shapes.specs.declared.operand.Operand.{Operand}
use Rattle.vg_shapes.specs.declared.operand.Slot.{Slot}
use Rattle.vg_shapes.specs.declared.pack.Pack.{Pack}
use Rattle.vg_shapes.specs.declared.pack.Pack.TheVariants.{Call}
use Rattle.vg_shapes.specs.declared.ssa.Ssa.{Ssa}
use Rattle.vg_shapes.specs.Description.{Description}
use Rattle.vg_shapes.specs.Pack.{is_pack_size}

-- a pack can have these slots, which want these values
abbrev pub can_be_packed : List Slot → List ℕ → Bool
can_be_packed slots us =
    nat_le 2 (length slots) && (list_all (λ s. wants_value s.wanted) slots && all_differ us)

-- loads of these units are exactly these slots of a register of this width
abbrev pub are_wanted_loads : Ssa → ℕ → List Slot → List ℕ → Bool
are_wanted_loads ssa register slots us =
    let width = first_width ssa us in
    is_pack_size (length us * width / 8)
    && (nat_eq (register_for us width) register
    && (pointwise same_slot slots (lanes_from 0 width (map Some us)) && are_beside ssa us))

-- a call of an instance in these lanes is exactly these slots, and its lanes agree on its leaves
abbrev pub is_wanted_call : List Description → List Match → Ssa → List Slot → ℕ → ℕ → List (Option ℕ) → Bool
is_wanted_call ds matches ssa slots d width lanes =
    pointwise same_slot slots (lanes_from 0 width lanes)
    && (are_matched matches d 0 lanes
    && list_all (λ q. agree q.slots) (operands_of ds matches ssa (Call d lanes)))

-- the call of the instance of a number, if there are both
abbrev pub numbered_producer : List Description → List Match → Ssa → Operand → ℕ → List Pack
numbered_producer ds matches ssa o d = option_map_or (call_producer ds matches ssa o d) (slice_get ds d) []
