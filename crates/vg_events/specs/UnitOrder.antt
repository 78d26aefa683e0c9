-- The order of lines, told by units: which pairs of units are out of order.
use Rattle.std.specs.Prelude.{ℕ, ◌+◌, ◌-◌, ◌&&◌, ◌||◌, not, Bool, List, [], ◌∷◌, length, map, nat_eq, nat_le, nat_lt, Option, slice_index_or}
use Rattle.std.specs.List.{list_any}
use Rattle.std.specs.Ordering.{int_eq}
use Rattle.vg_shapes.specs.declared.access.Access.{Access}
use Rattle.vg_shapes.specs.declared.ssa.Ssa.{Ssa}
use Rattle.vg_shapes.specs.Depends.{conflict_at}
use Rattle.vg_shapes.specs.Layout.{access_of}
use Rattle.vg_shapes.specs.Order.{numbers_from}
use Rattle.vg_shapes.specs.Units.{arguments}
use Rattle.vg_events.specs.Events.{Label, kernel_labels, label_at, labels_in}
use Rattle.vg_events.specs.Orders.{line_of}

-- the numbers of the events of each unit, the first of all having this number
abbrev pub spans : ℕ → List (Option Access) → List (List ℕ)
spans f [] = []
spans f (x ∷ xs) =
    numbers_from f (length (labels_in x)) ∷ spans (f + length (labels_in x)) xs

-- the events of the unit that has the number of this value
abbrev pub unit_events : Ssa → ℕ → List ℕ
unit_events ssa v = slice_index_or (spans 0 (map access_of ssa.units)) (v - arguments ssa) []

-- through one pointer only events of the same byte count
abbrev pub may_meet : Label → Label → Bool
may_meet l m =
    not (nat_eq l.address.pointer m.address.pointer) || int_eq l.address.offset m.address.offset

-- a later event stands on no later line than an earlier one that it may meet
abbrev pub is_late : Ssa → List (List ℕ) → ℕ → ℕ → Bool
is_late ssa lines x y =
    may_meet (label_at (kernel_labels ssa) x) (label_at (kernel_labels ssa) y)
    && nat_le (line_of y lines) (line_of x lines)

-- A later unit depends on an earlier one as an access, and an event of the later stands on no later
-- line than one of the earlier.
abbrev pub is_out_of_order : Ssa → List (List ℕ) → ℕ → ℕ → Bool
is_out_of_order ssa lines v w =
    nat_lt v w
    && (conflict_at ssa v w
    && list_any (λ x. list_any (is_late ssa lines x) (unit_events ssa w)) (unit_events ssa v))
