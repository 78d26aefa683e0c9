-- The order in which the nodes of packs are put: one order where there is one. Units come by rising
-- number, and before a unit all for which its node waits.
use Rattle.std.specs.Prelude.{◌≡◌, ℕ, not, Bool, false, List, [], ◌∷◌, ◌++◌, length, filter, Option, Some, None, nat_eq, slice_get}
use Rattle.std.specs.List.{filter_map, find, flat_map, list_any, position}
use Rattle.std.specs.List.Sorted.{IsPermutation}
use Rattle.std.specs.Option.{option_map, option_map_or}
use Rattle.vg_shapes.specs.declared.match_table.Match.{Match}
use Rattle.vg_shapes.specs.declared.order.Node.{Node}
use Rattle.vg_shapes.specs.declared.order.Node.TheVariants.{PackAt, UnitAt}
use Rattle.vg_shapes.specs.declared.pack.Pack.{Pack}
use Rattle.vg_shapes.specs.declared.pack.Pack.TheVariants.{Stores, Loads, Call}
use Rattle.vg_shapes.specs.declared.ssa.Ssa.{Ssa}
use Rattle.vg_shapes.specs.declared.wanted.Wanted.{Wanted}
use Rattle.vg_shapes.specs.declared.wanted.Wanted.TheVariants.{Value, Constant, Nothing}
use Rattle.vg_shapes.specs.DepList.{row_of}
use Rattle.vg_shapes.specs.Nodes.{nodes, units_at}
use Rattle.vg_shapes.specs.Order.{all_units, numbers_from}
use Rattle.vg_shapes.specs.Pack.{bounds_from, units_of}
use Rattle.vg_shapes.specs.Units.{arguments, is_unit}

-- ---- for which units a node waits, in the order in which it names them

abbrev pub value_wanted : Wanted → Option ℕ
value_wanted (Value x) = Some x
value_wanted (Constant w n) = None
value_wanted Nothing = None

-- A pack of loads or stores, from lane 0 on: the units on which each depends, as the list names them.
-- A call, from lane 0 on: the units to which its leaves are bound, the first leaf first.
abbrev pub pack_waits : List (ℕ × ℕ) → Ssa → List Match → Pack → List ℕ
pack_waits deps ssa matches (Stores us) = flat_map (row_of deps) us
pack_waits deps ssa matches (Loads us) = flat_map (row_of deps) us
pack_waits deps ssa matches (Call d lanes) =
    filter (is_unit ssa) (filter_map (λ b. value_wanted b.wanted) (bounds_from matches d 0 lanes))

abbrev pub node_waits : List (ℕ × ℕ) → Ssa → List Match → List Pack → Node → List ℕ
node_waits deps ssa matches packs (PackAt k) =
    option_map_or (pack_waits deps ssa matches) (slice_get packs k) []
node_waits deps ssa matches packs (UnitAt v) = row_of deps v

-- ---- what stands before

-- the node of a unit: the pack that has it, else it alone
abbrev pub node_of : List Pack → ℕ → Node
node_of packs x =
    option_map_or PackAt (position (λ p. list_any (nat_eq x) (units_of p)) packs) (UnitAt x)

-- a unit stands with one of these nodes
abbrev pub is_before : List Pack → List Node → ℕ → Bool
is_before packs before x = list_any (nat_eq x) (all_units (units_at packs) before)

-- the first of these units that stands with none of the nodes
abbrev pub first_open : List Pack → List Node → List ℕ → Option ℕ
first_open packs before us = find (λ x. not (is_before packs before x)) us

abbrev pub is_pack : ℕ → Node → Bool
is_pack k (PackAt j) = nat_eq k j
is_pack k (UnitAt v) = false

-- the first pack that is none of the nodes
abbrev pub first_pack : List Pack → List Node → Option ℕ
first_pack packs before =
    find (λ k. not (list_any (is_pack k) before)) (numbers_from 0 (length packs))

-- ---- which node is next

-- From a node one comes to another by the nodes of these units: each is the first open one for which
-- the node before waits, and the last node waits for none.
abbrev pub LeadsDown : List (ℕ × ℕ) → Ssa → List Match → List Pack → List Node → Node → List ℕ → Node → Type 0
LeadsDown deps ssa matches packs before n [] last =
    (n ≡ last) × (first_open packs before (node_waits deps ssa matches packs n) ≡ None)
LeadsDown deps ssa matches packs before n (x ∷ xs) last =
    (first_open packs before (node_waits deps ssa matches packs n) ≡ Some x)
    × LeadsDown deps ssa matches packs before (node_of packs x) xs last

-- the node to which one comes from the node of this unit; without a unit, the first pack that is left
abbrev pub IsNextFrom : List (ℕ × ℕ) → Ssa → List Match → List Pack → List Node → Node → Option ℕ → Type 0
IsNextFrom deps ssa matches packs before n None =
    option_map PackAt (first_pack packs before) ≡ Some n
IsNextFrom deps ssa matches packs before n (Some x) =
    (xs : List ℕ) × LeadsDown deps ssa matches packs before (node_of packs x) xs n

-- Behind these nodes a node is next: the one to which the node of the least open unit leads.
abbrev pub IsNext : List (ℕ × ℕ) → Ssa → List Match → List Pack → List Node → Node → Type 0
IsNext deps ssa matches packs before n =
    IsNextFrom deps ssa matches packs before n
    (first_open packs before (numbers_from (arguments ssa) (length ssa.units)))

-- each node is next behind those that stand before it
abbrev pub EachIsNext : List (ℕ × ℕ) → Ssa → List Match → List Pack → List Node → List Node → Type 0
EachIsNext deps ssa matches packs before [] = Unit {0}
EachIsNext deps ssa matches packs before (n ∷ ns) =
    IsNext deps ssa matches packs before n
    × EachIsNext deps ssa matches packs (before ++ n ∷ []) ns

-- ---- the order

-- each node once, and always the next one
pub record IsScheduled
    (deps : List (ℕ × ℕ)) (ssa : Ssa) (matches : List Match) (packs : List Pack) (order : List Node)
    : Type 0 where
  pub once : IsPermutation (nodes ssa packs) order
  pub next : EachIsNext deps ssa matches packs [] order
