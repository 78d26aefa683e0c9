-- The graph of a plan: its nodes by number, on what each depends, and the node of each unit.
use Rattle.std.specs.Prelude.{◌≡◌, ◌<◌, ℕ, ◌+◌, ◌-◌, ◌^◌, ◌&&◌, List, [], ◌∷◌, ◌++◌, length, map, filter, slice_get, slice_index_or, Option, Some, None, nat_le, nat_lt, if◌then◌else◌}
use Rattle.std.specs.List.{filter_map}
use Rattle.std.specs.Option.{is_none, option_map_or}
use Rattle.vg_shapes.specs.declared.match_table.Bound.{Bound}
use Rattle.vg_shapes.specs.declared.match_table.Match.{Match}
use Rattle.vg_shapes.specs.declared.order.Node.{Node}
use Rattle.vg_shapes.specs.declared.order.Node.TheVariants.{PackAt, UnitAt}
use Rattle.vg_shapes.specs.declared.pack.Pack.{Pack}
use Rattle.vg_shapes.specs.declared.pack.Pack.TheVariants.{Stores, Loads, Call}
use Rattle.vg_shapes.specs.declared.ssa.Ssa.{Ssa}
use Rattle.vg_shapes.specs.declared.wanted.Wanted.{Wanted}
use Rattle.vg_shapes.specs.declared.wanted.Wanted.TheVariants.{Value, Constant, Nothing}
use Rattle.vg_shapes.specs.Nodes.{nodes, packed, units_at}
use Rattle.vg_shapes.specs.Order.{count_of, numbers_from, Stands}
use Rattle.vg_shapes.specs.Pack.{bounds_from, match_at}
use Rattle.vg_shapes.specs.Units.{arguments}
use Rattle.vg_order.specs.declared.graph.Graph.{Graph}
use Rattle.vg_order.specs.declared.needs.Needs.{Needs}
use Rattle.vg_order.specs.declared.needs.Needs.TheVariants.{Those, RowsOf}
use Rattle.vg_order.specs.Paths.{home_at, IsInside}

-- ---- on what nodes depend, the units having the numbers from a first one up to an end

-- the unit that is wanted, if any
abbrev pub unit_in : ℕ → ℕ → Wanted → Option ℕ
unit_in first end (Value x) = if nat_le first x && nat_lt x end then Some x else None
unit_in first end (Constant w n) = None
unit_in first end Nothing = None

-- the units to which leaves are bound
abbrev pub units_among : ℕ → ℕ → List Bound → List ℕ
units_among first end bounds = filter_map (λ b. unit_in first end b.wanted) bounds

-- what the leaves of a lane are bound to, where it is matched
abbrev pub lane_bounds : List Match → ℕ → ℕ → Option ℕ → List Bound
lane_bounds matches d lane None = []
lane_bounds matches d lane (Some v) = option_map_or (λ m. m.bound) (match_at matches d lane v) []

abbrev pub pack_needs : ℕ → ℕ → List Match → Pack → Needs
pack_needs first end matches (Stores us) = RowsOf us
pack_needs first end matches (Loads us) = RowsOf us
pack_needs first end matches (Call d lanes) =
    Those (units_among first end (bounds_from matches d 0 lanes))

abbrev pub node_needs : ℕ → ℕ → List Match → List Pack → Node → Needs
node_needs first end matches packs (PackAt k) =
    option_map_or (pack_needs first end matches) (slice_get packs k) (Those [])
node_needs first end matches packs (UnitAt v) = RowsOf (v ∷ [])

-- ---- the node of a unit

-- the pack of which a unit is one, and none where it is in none of the packs that were looked at
abbrev pub IsOwner : List Pack → List Pack → ℕ → Option ℕ → Type 0
IsOwner packs done x None = count_of x (packed done) ≡ 0
IsOwner packs done x (Some k) = (k < length packs) × Stands x (units_at packs (PackAt k))

abbrev pub AreOwners : List Pack → List Pack → List (Option ℕ) → Type 0
AreOwners packs done owners = (x : ℕ) → IsOwner packs done x (slice_index_or owners x None)

-- the units that no pack owns, from the first one up to an end
abbrev pub free_from : List (Option ℕ) → ℕ → ℕ → List ℕ
free_from owners first end =
    filter (λ v. is_none (slice_index_or owners v None)) (numbers_from first (end - first))

-- the number of the node of a unit with this owner
abbrev pub IsHome : List Node → ℕ → ℕ → Option ℕ → Type 0
IsHome nodes x home None =
    (home < length nodes) × (slice_index_or nodes home (UnitAt 0) ≡ UnitAt x)
IsHome nodes x home (Some k) = home ≡ k

-- the node of a unit with this owner: a new one where it has none
abbrev pub Settles : ℕ → List Node → List Node → List Needs → List Needs → ℕ → Option ℕ → Type 0
Settles unit before after needs more home None =
    (after ≡ before ++ UnitAt unit ∷ [])
    × (more ≡ needs ++ RowsOf (unit ∷ []) ∷ [])
    × (home ≡ length before)
Settles unit before after needs more home (Some k) =
    (after ≡ before) × (more ≡ needs) × (home ≡ k)

-- the node of this number
abbrev pub node_at : Graph → ℕ → Node
node_at g n = slice_index_or g.nodes n (UnitAt 0)

-- ---- the whole

pub record IsGraphOf (ssa : Ssa) (matches : List Match) (packs : List Pack) (g : Graph) : Type 0 where
  pub first : g.first ≡ arguments ssa
  pub long : length g.homes ≡ arguments ssa + length ssa.units
  pub nodes : g.nodes ≡ nodes ssa packs
  pub needs : g.needs ≡ map (node_needs (arguments ssa) (arguments ssa + length ssa.units) matches packs) g.nodes
  pub homes : (x : ℕ) → IsInside g x →
      (home_at g x < length g.nodes) × Stands x (units_at packs (node_at g (home_at g x)))
  pub few : (length g.homes < 2 ^ 32) × (length g.needs < 2 ^ 32)
