-- The nodes of a list of packs: the packs, and the units outside them. Their dependences, cycles and
-- legal orders.
use Rattle.std.specs.Prelude.{◌≡◌, ◌≤◌, ℕ, ◌+◌, ◌&&◌, not, Bool, true, false, List, [], ◌∷◌, ◌++◌, length, map, filter, Option, None, slice_get, nat_eq, Contains}
use Rattle.std.specs.List.{AllByRecursion, flat_map, list_any}
use Rattle.std.specs.List.Sorted.{IsPermutation}
use Rattle.std.specs.Option.{option_map_or}
use Rattle.vg_shapes.specs.declared.match_table.Match.{Match}
use Rattle.vg_shapes.specs.declared.order.Node.{Node}
use Rattle.vg_shapes.specs.declared.order.Node.TheVariants.{PackAt, UnitAt}
use Rattle.vg_shapes.specs.declared.pack.Pack.{Pack}
use Rattle.vg_shapes.specs.declared.pack.Pack.TheVariants.{Stores, Loads, Call}
use Rattle.vg_shapes.specs.declared.ssa.Ssa.{Ssa}
use Rattle.vg_shapes.specs.Depends.{depends_on}
use Rattle.vg_shapes.specs.Layout.{access_at}
use Rattle.vg_shapes.specs.Order.{count_of, Follows, numbers_from, one_if, Stands}
use Rattle.vg_shapes.specs.Pack.{bounds_from, units_of}
use Rattle.vg_shapes.specs.Units.{arguments, is_unit, is_value}

-- the units in packs
abbrev pub packed : List Pack → List ℕ
packed packs = flat_map units_of packs

abbrev pub is_packed : List Pack → ℕ → Bool
is_packed packs v = list_any (nat_eq v) (packed packs)

-- the lanes of a call are operations
abbrev pub CallsOperations : Ssa → Pack → Type 0
CallsOperations ssa (Stores us) = Unit {0}
CallsOperations ssa (Loads us) = Unit {0}
CallsOperations ssa (Call d lanes) =
    AllByRecursion (λ v. access_at ssa v ≡ None) (units_of (Call d lanes))

-- packs of units, none of which stands in them twice
pub record ArePacks (ssa : Ssa) (packs : List Pack) : Type 0 where
  pub once : (v : ℕ) → count_of v (packed packs) ≤ one_if (is_unit ssa v)
  pub calls : AllByRecursion (CallsOperations ssa) packs

-- the units that are done with a node
abbrev pub units_at : List Pack → Node → List ℕ
units_at packs (PackAt k) = option_map_or units_of (slice_get packs k) []
units_at packs (UnitAt v) = v ∷ []

-- the packs, then the units outside them
abbrev pub nodes : Ssa → List Pack → List Node
nodes ssa packs =
    map PackAt (numbers_from 0 (length packs))
    ++ map UnitAt
    (filter (λ v. not (is_packed packs v))
    (numbers_from (arguments ssa) (length ssa.units)))

-- A pack depends on the units on which its units depend. A call depends on the values to which its
-- lanes are bound, in place of the operands of the operations that it computes.
abbrev pub pack_depends : Ssa → List Match → Pack → ℕ → Bool
pack_depends ssa matches (Stores us) x = list_any (λ u. depends_on ssa u x) us
pack_depends ssa matches (Loads us) x = list_any (λ u. depends_on ssa u x) us
pack_depends ssa matches (Call d lanes) x =
    is_unit ssa x && list_any (λ b. is_value x b.wanted) (bounds_from matches d 0 lanes)

-- a node depends on a unit
abbrev pub node_depends : Ssa → List Match → List Pack → Node → ℕ → Bool
node_depends ssa matches packs (PackAt k) x =
    option_map_or (λ p. pack_depends ssa matches p x) (slice_get packs k) false
node_depends ssa matches packs (UnitAt v) x = depends_on ssa v x

-- a node depends on a unit of another
abbrev pub NodeDepends : Ssa → List Match → List Pack → Node → Node → Type 0
NodeDepends ssa matches packs n m =
    (x : ℕ) × Stands x (units_at packs m) × (node_depends ssa matches packs n x ≡ true)

-- each node depends on the next, and the last on this one
abbrev pub LeadsTo : Ssa → List Match → List Pack → Node → Node → List Node → Type 0
LeadsTo ssa matches packs last n [] = NodeDepends ssa matches packs n last
LeadsTo ssa matches packs last n (m ∷ ms) =
    NodeDepends ssa matches packs n m × LeadsTo ssa matches packs last m ms

-- nodes each of which depends on the next, and the last on the first
abbrev pub IsCycle : Ssa → List Match → List Pack → List Node → Type 0
IsCycle ssa matches packs [] = ⊥
IsCycle ssa matches packs (n ∷ ns) =
    AllByRecursion (Contains (nodes ssa packs)) (n ∷ ns) × LeadsTo ssa matches packs n n ns

-- a legal order: each node once, after all units on which it depends
pub record IsOrder (ssa : Ssa) (matches : List Match) (packs : List Pack) (order : List Node) : Type 0 where
  pub once : IsPermutation (nodes ssa packs) order
  pub follows : Follows (node_depends ssa matches packs) (units_at packs) [] order
