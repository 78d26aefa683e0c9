-- Laws on the orders of units.
use Rattle.std.specs.Prelude.{◌≡◌, ℕ, ◌&&◌, Bool, true, false, List, [], length, nat_lt, slice_index, Option, Some}
use Rattle.std.specs.List.{list_all, list_any}
use Rattle.std.specs.Option.{is_some}
use Rattle.vg_shapes.specs.declared.match_table.Match.{Match}
use Rattle.vg_shapes.specs.declared.order.Node.{Node}
use Rattle.vg_shapes.specs.declared.pack.Pack.{Pack}
use Rattle.vg_shapes.specs.declared.ssa.Ssa.{Ssa}
use Rattle.vg_shapes.specs.declared.ssa_unit.SsaUnit.{SsaUnit}
use Rattle.vg_shapes.specs.Depends.{conflict_at}
use Rattle.vg_shapes.specs.Layout.{Respects}
use Rattle.vg_shapes.specs.Nodes.{ArePacks, IsOrder, units_at}
use Rattle.vg_shapes.specs.Order.{all_units, count_of, Follows}
use Rattle.vg_shapes.specs.RunUnits.{Reached, run_units}
use Rattle.vg_shapes.specs.Sound.{TakeEarlier}
use Rattle.vg_shapes.specs.Units.{arguments}
use Rattle.vg_order_laws.specs.Sequence.{Commute, run_steps}
use Rattle.vg_order_laws.specs.Steps.{HaveNumbers, stays_inside, unit_numbers, unit_step}

-- units whose accesses do not conflict do the same whichever comes first, in each layout that respects
-- noalias
abbrev pub UnitsCommute : Type 0
UnitsCommute =
    (ssa : Ssa) (places : List ℕ) (numbers : ℕ → ℕ) (x y : ℕ) →
    Respects ssa places → conflict_at ssa x y ≡ false →
    Commute (unit_step ssa places numbers) y x

-- one of these units conflicts with an earlier one of this number
abbrev pub conflicts : Ssa → List ℕ → ℕ → Bool
conflicts ssa us x = list_any (λ y. nat_lt x y && conflict_at ssa x y) us

-- each unit stands in the list as often as in the numbers of all units: once
abbrev pub AreUnits : Ssa → List ℕ → Type 0
AreUnits ssa us = (x : ℕ) → count_of x us ≡ count_of x (unit_numbers ssa)

-- where nodes depend on what their units conflict with, the units of an order in which each node
-- follows those on which it depends run as all units do in the order of their numbers
abbrev pub LegalOrdersRun : Type 0
LegalOrdersRun =
    (ssa : Ssa) (places : List ℕ) (numbers : ℕ → ℕ) (units : Node → List ℕ)
    (depends : Node → ℕ → Bool) (order : List Node) →
    Respects ssa places →
    ((n : Node) (x : ℕ) → conflicts ssa (units n) x ≡ true → depends n x ≡ true) →
    Follows depends units [] order → AreUnits ssa (all_units units order) →
    (memory : List ℕ) →
    run_steps (unit_step ssa places numbers) (all_units units order) memory
    ≡ run_steps (unit_step ssa places numbers) (unit_numbers ssa) memory

-- the same of a legal order of packs and the units outside them
abbrev pub PlanOrdersRun : Type 0
PlanOrdersRun =
    (ssa : Ssa) (places : List ℕ) (numbers : ℕ → ℕ) (matches : List Match) (packs : List Pack)
    (order : List Node) →
    Respects ssa places → ArePacks ssa packs → IsOrder ssa matches packs order →
    (memory : List ℕ) →
    run_steps (unit_step ssa places numbers) (all_units (units_at packs) order) memory
    ≡ run_steps (unit_step ssa places numbers) (unit_numbers ssa) memory

-- a run that is done leaves what the steps of its units leave where all values have the numbers that
-- it found, and each operation has its number
abbrev pub RunsAreSteps : Type 0
RunsAreSteps =
    (ssa : Ssa) (places : List ℕ) (r t : Reached) →
    length r.numbers ≡ arguments ssa → TakeEarlier (arguments ssa) ssa.units →
    run_units places ssa.units r ≡ Some t →
    (run_steps (unit_step ssa places (slice_index t.numbers)) (unit_numbers ssa) r.memory
    ≡ Some t.memory)
    × HaveNumbers (slice_index t.numbers) (arguments ssa) ssa.units

-- a run ends without a trap exactly where each unit stays inside the memory
abbrev pub RunsTrapOutside : Type 0
RunsTrapOutside =
    (places : List ℕ) (us : List SsaUnit) (r : Reached) →
    is_some (run_units places us r) ≡ list_all (stays_inside places (length r.memory)) us
