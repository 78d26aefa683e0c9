-- Laws on orders and cycles by a list of dependences.
use Rattle.std.specs.Prelude.{◌≡◌, ◌↔◌, ℕ, List, [], length, map}
use Rattle.vg_shapes.specs.declared.match_table.Match.{Match}
use Rattle.vg_shapes.specs.declared.order.Node.{Node}
use Rattle.vg_shapes.specs.declared.order.Node.TheVariants.{UnitAt}
use Rattle.vg_shapes.specs.declared.pack.Pack.{Pack}
use Rattle.vg_shapes.specs.declared.ssa.Ssa.{Ssa}
use Rattle.vg_shapes.specs.Depends.{dependences}
use Rattle.vg_shapes.specs.Nodes.{ArePacks, IsCycle, IsOrder}
use Rattle.vg_shapes.specs.Order.{numbers_from}
use Rattle.vg_shapes.specs.Units.{arguments}
use Rattle.vg_order.specs.ByList.{IsCycleBy, IsOrderBy, NameLesser, NameUnits}
use Rattle.vg_order.specs.Scheduled.{IsScheduled}

-- nodes that have an order have no cycle
abbrev pub OrdersHaveNoCycle : Type 0
OrdersHaveNoCycle =
    (deps : List (ℕ × ℕ)) (ssa : Ssa) (matches : List Match) (packs : List Pack)
    (order cycle : List Node) →
    ArePacks ssa packs → IsOrderBy deps ssa matches packs order →
    IsCycleBy deps ssa matches packs cycle → ⊥

-- by the list of all dependences of a kernel, orders and cycles are those of its plans
abbrev pub DependencesGiveOrders : Type 0
DependencesGiveOrders =
    (ssa : Ssa) (matches : List Match) (packs : List Pack) (ns : List Node) →
    (IsOrderBy (dependences ssa) ssa matches packs ns ↔ IsOrder ssa matches packs ns)
    × (IsCycleBy (dependences ssa) ssa matches packs ns ↔ IsCycle ssa matches packs ns)

-- it names units, and for each unit lesser ones alone
abbrev pub DependencesNameUnits : Type 0
DependencesNameUnits = (ssa : Ssa) → NameUnits ssa (dependences ssa) × NameLesser (dependences ssa)

-- the units in their order are an order of the empty plan
abbrev pub NumbersAreAnOrder : Type 0
NumbersAreAnOrder =
    (deps : List (ℕ × ℕ)) (ssa : Ssa) (matches : List Match) →
    NameUnits ssa deps → NameLesser deps →
    IsOrderBy deps ssa matches [] (map UnitAt (numbers_from (arguments ssa) (length ssa.units)))

-- there is at most one order in which nodes are put
abbrev pub OneOrderIsScheduled : Type 0
OneOrderIsScheduled =
    (deps : List (ℕ × ℕ)) (ssa : Ssa) (matches : List Match) (packs : List Pack)
    (one other : List Node) →
    IsScheduled deps ssa matches packs one → IsScheduled deps ssa matches packs other →
    one ≡ other
