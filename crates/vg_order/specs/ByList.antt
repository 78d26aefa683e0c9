-- The nodes of a list of packs by a list of dependences: which depend on which, cycles and orders.
use Rattle.std.specs.Prelude.{◌≡◌, ◌<◌, ◌≤◌, ℕ, ◌&&◌, Bool, true, false, List, [], ◌∷◌, slice_get, Contains}
use Rattle.std.specs.List.{AllByRecursion, list_any}
use Rattle.std.specs.List.Sorted.{IsPermutation}
use Rattle.std.specs.Option.{option_map_or}
use Rattle.vg_shapes.specs.declared.match_table.Match.{Match}
use Rattle.vg_shapes.specs.declared.order.Node.{Node}
use Rattle.vg_shapes.specs.declared.order.Node.TheVariants.{PackAt, UnitAt}
use Rattle.vg_shapes.specs.declared.pack.Pack.{Pack}
use Rattle.vg_shapes.specs.declared.pack.Pack.TheVariants.{Stores, Loads, Call}
use Rattle.vg_shapes.specs.declared.ssa.Ssa.{Ssa}
use Rattle.vg_shapes.specs.DepList.{is_listed}
use Rattle.vg_shapes.specs.Nodes.{nodes, units_at}
use Rattle.vg_shapes.specs.Order.{count_of, Follows, Stands}
use Rattle.vg_shapes.specs.Pack.{bounds_from}
use Rattle.vg_shapes.specs.Units.{is_unit, is_value}

-- what a list says that units depend on is a unit
abbrev pub NameUnits : Ssa → List (ℕ × ℕ) → Type 0
NameUnits ssa deps =
    (later earlier : ℕ) → is_listed deps later earlier ≡ true → is_unit ssa earlier ≡ true

-- A pack depends on the units on which its units depend by a list. A call depends on the values to
-- which its lanes are bound, in place of the operands of the operations that it computes.
abbrev pub pack_depends_by : List (ℕ × ℕ) → Ssa → List Match → Pack → ℕ → Bool
pack_depends_by deps ssa matches (Stores us) x = list_any (λ u. is_listed deps u x) us
pack_depends_by deps ssa matches (Loads us) x = list_any (λ u. is_listed deps u x) us
pack_depends_by deps ssa matches (Call d lanes) x =
    is_unit ssa x && list_any (λ b. is_value x b.wanted) (bounds_from matches d 0 lanes)

-- a node depends on a unit by a list
abbrev pub node_depends_by : List (ℕ × ℕ) → Ssa → List Match → List Pack → Node → ℕ → Bool
node_depends_by deps ssa matches packs (PackAt k) x =
    option_map_or (λ p. pack_depends_by deps ssa matches p x) (slice_get packs k) false
node_depends_by deps ssa matches packs (UnitAt v) x = is_listed deps v x

-- a node depends on a unit of another
abbrev pub NodeDependsBy : List (ℕ × ℕ) → Ssa → List Match → List Pack → Node → Node → Type 0
NodeDependsBy deps ssa matches packs n m =
    (x : ℕ) × Stands x (units_at packs m) × (node_depends_by deps ssa matches packs n x ≡ true)

-- each node depends on the next, and the last on this one
abbrev pub LeadsToBy : List (ℕ × ℕ) → Ssa → List Match → List Pack → Node → Node → List Node → Type 0
LeadsToBy deps ssa matches packs last n [] = NodeDependsBy deps ssa matches packs n last
LeadsToBy deps ssa matches packs last n (m ∷ ms) =
    NodeDependsBy deps ssa matches packs n m × LeadsToBy deps ssa matches packs last m ms

-- nodes each of which depends on the next, and the last on the first
abbrev pub IsCycleBy : List (ℕ × ℕ) → Ssa → List Match → List Pack → List Node → Type 0
IsCycleBy deps ssa matches packs [] = ⊥
IsCycleBy deps ssa matches packs (n ∷ ns) =
    AllByRecursion (Contains (nodes ssa packs)) (n ∷ ns)
    × LeadsToBy deps ssa matches packs n n ns

-- an order that is legal by a list: each node once, after all units on which it depends
pub record IsOrderBy
    (deps : List (ℕ × ℕ)) (ssa : Ssa) (matches : List Match) (packs : List Pack) (order : List Node)
    : Type 0 where
  pub once : IsPermutation (nodes ssa packs) order
  pub follows : Follows (node_depends_by deps ssa matches packs) (units_at packs) [] order

-- none of these numbers stands twice
abbrev pub AreOnce : List ℕ → Type 0
AreOnce us = (u : ℕ) → count_of u us ≤ 1

-- each of these units is one of the node at its place
abbrev pub AreUnitsOf : List Pack → List ℕ → List Node → Type 0
AreUnitsOf packs [] ns = ns ≡ []
AreUnitsOf packs (u ∷ us) [] = ⊥
AreUnitsOf packs (u ∷ us) (n ∷ ns) = Stands u (units_at packs n) × AreUnitsOf packs us ns

-- the nodes of these units, each of which is named once, are a cycle
abbrev pub NamesCycle : List (ℕ × ℕ) → Ssa → List Match → List Pack → List ℕ → Type 0
NamesCycle deps ssa matches packs us =
    (ns : List Node) × IsCycleBy deps ssa matches packs ns × AreUnitsOf packs us ns × AreOnce us

-- a list has lesser units alone for each unit
abbrev pub NameLesser : List (ℕ × ℕ) → Type 0
NameLesser deps = (later earlier : ℕ) → is_listed deps later earlier ≡ true → earlier < later
