-- Nodes by number, and the search along paths of nodes that wait for each other.
use Rattle.std.specs.Prelude.{◌≡◌, ◌≢◌, ◌<◌, ◌≤◌, ℕ, ◌+◌, ◌-◌, ◌^◌, Bool, true, false, List, [], ◌∷◌, ◌++◌, drop, length, map, slice_index, slice_index_or, slice_set, Option, Some, None, ◌⊎◌}
use Rattle.std.specs.List.{AllByRecursion, concat}
use Rattle.vg_shapes.specs.Order.{count_of, one_if, Stands}
use Rattle.vg_order.specs.declared.graph.Graph.{Graph}
use Rattle.vg_order.specs.declared.needs.Cursor.{Cursor}
use Rattle.vg_order.specs.declared.needs.Needs.TheVariants.{Those}
use Rattle.vg_order.specs.declared.paths.Path.{Path}
use Rattle.vg_order.specs.declared.progress.Progress.{Progress}
use Rattle.vg_order.specs.Needs.{ComesFirst, flag_at, left_from, Passes, rows_of}

-- ---- nodes by number

-- the rows of units on which a node depends, and the units
abbrev pub rows_at : List (ℕ × ℕ) → Graph → ℕ → List (List ℕ)
rows_at deps g n = rows_of deps (slice_index_or g.needs n (Those []))

abbrev pub needs_at : List (ℕ × ℕ) → Graph → ℕ → List ℕ
needs_at deps g n = concat (rows_at deps g n)

-- the node of a unit
abbrev pub home_at : Graph → ℕ → ℕ
home_at g x = slice_index g.homes x

-- the units that a node was not yet seen to find placed
abbrev pub start : Cursor
start = record { row = 0; index = 0 }

abbrev pub left_at : List (ℕ × ℕ) → Graph → List Cursor → ℕ → List ℕ
left_at deps g cursors n = left_from (rows_at deps g n) (slice_index_or cursors n start)

-- the number of a unit
abbrev pub IsInside : Graph → ℕ → Type 0
IsInside g x = (g.first ≤ x) × (x < length g.homes)

-- nodes depend on units, and units have nodes
pub record IsGraph (deps : List (ℕ × ℕ)) (g : Graph) : Type 0 where
  pub units : (n x : ℕ) → Stands x (needs_at deps g n) → IsInside g x
  pub homes : (x : ℕ) → IsInside g x → home_at g x < length g.needs
  pub begins : g.first ≤ length g.homes
  pub few : (length g.homes < 2 ^ 32) × (length g.needs < 2 ^ 32)

-- ---- orders of numbers

-- after those that are done, each node stands after the nodes of the units on which it depends
abbrev pub FollowsHomes : (ℕ → List ℕ) → (ℕ → ℕ) → List ℕ → List ℕ → Type 0
FollowsHomes needs home done [] = Unit {0}
FollowsHomes needs home done (n ∷ ns) =
    ((x : ℕ) → Stands x (needs n) → Stands (home x) done)
    × FollowsHomes needs home (done ++ n ∷ []) ns

-- each of so many nodes once, after the nodes of the units on which it depends
pub record IsOrdered (needs : ℕ → List ℕ) (home : ℕ → ℕ) (count : ℕ) (order : List ℕ) : Type 0 where
  pub once : (n : ℕ) → n < count → count_of n order ≡ 1
  pub none : (n : ℕ) → count ≤ n → count_of n order ≡ 0
  pub follows : FollowsHomes needs home [] order

abbrev pub count_true : List Bool → ℕ
count_true [] = 0
count_true (b ∷ bs) = one_if b + count_true bs

-- what is known of the nodes that are placed, and of those that are not
pub record IsPlaced
    (needs left : ℕ → List ℕ) (homes : List ℕ) (count : ℕ) (order : List ℕ) (placed : List Bool)
    : Type 0 where
  pub counts : (n : ℕ) → count_of n order ≡ one_if (flag_at placed n)
  pub follows : FollowsHomes needs (slice_index homes) [] order
  pub long : length placed ≡ count
  pub known : (n : ℕ) → n < count → Passes homes placed (needs n) (left n)

abbrev pub IsProgress : List (ℕ × ℕ) → Graph → Progress → Type 0
IsProgress deps g p =
    IsPlaced (needs_at deps g) (left_at deps g p.cursors.items) g.homes (length g.needs) p.order.items p.placed.items
    × (length p.cursors.items ≡ length g.needs)

-- a node of which all units for which it waits are placed
abbrev pub IsReady : List (ℕ × ℕ) → Graph → List Bool → ℕ → Type 0
IsReady deps g placed n =
    (x : ℕ) → Stands x (needs_at deps g n) → flag_at placed (home_at g x) ≡ true

-- what a visit of a node comes to: it is placed, or waits for this unit as the first one
abbrev pub Visits : List (ℕ × ℕ) → Graph → Progress → Progress → ℕ → Option ℕ → Type 0
Visits deps g before after n None =
    (after.order.items ≡ before.order.items ++ n ∷ [])
    × (after.placed.items ≡ slice_set before.placed.items n true)
    × IsReady deps g before.placed.items n
Visits deps g before after n (Some x) =
    (after.order.items ≡ before.order.items)
    × (after.placed.items ≡ before.placed.items)
    × Stands x (needs_at deps g n)
    × (flag_at before.placed.items (home_at g x) ≡ false)
    × ComesFirst g.homes before.placed.items (needs_at deps g n) x

-- ---- paths of units

-- the node of each unit depends on the next unit
abbrev pub LeadsUp : (ℕ → List ℕ) → (ℕ → ℕ) → List ℕ → Type 0
LeadsUp needs home [] = Unit {0}
LeadsUp needs home (u ∷ []) = Unit {0}
LeadsUp needs home (u ∷ (v ∷ vs)) = Stands v (needs (home u)) × LeadsUp needs home (v ∷ vs)

-- each is the first for which the node of the unit before waits
abbrev pub AreFirst : (ℕ → List ℕ) → List ℕ → List Bool → List ℕ → Type 0
AreFirst needs homes placed [] = Unit {0}
AreFirst needs homes placed (u ∷ []) = Unit {0}
AreFirst needs homes placed (u ∷ (v ∷ vs)) =
    ComesFirst homes placed (needs (slice_index homes u)) v
    × AreFirst needs homes placed (v ∷ vs)

-- and the last on a unit of this node
abbrev pub LeadsBack : (ℕ → List ℕ) → (ℕ → ℕ) → ℕ → List ℕ → Type 0
LeadsBack needs home end [] = Unit {0}
LeadsBack needs home end (u ∷ []) = (x : ℕ) × Stands x (needs (home u)) × (home x ≡ end)
LeadsBack needs home end (u ∷ (v ∷ vs)) =
    Stands v (needs (home u)) × LeadsBack needs home end (v ∷ vs)

-- units that lead from one to the next and back to the first
abbrev pub ClosesBy : (ℕ → List ℕ) → (ℕ → ℕ) → List ℕ → Type 0
ClosesBy needs home [] = ⊥
ClosesBy needs home (u ∷ us) = LeadsBack needs home (home u) (u ∷ us)

-- A path of units whose nodes wait for each other, with its top. The flags say which nodes are on it.
pub record OnPath
    (needs : ℕ → List ℕ) (homes : List ℕ) (count : ℕ) (placed : List Bool) (path : List ℕ) (on : List Bool)
    (top : ℕ)
    : Type 0 where
  pub leads : LeadsUp needs (slice_index homes) (path ++ top ∷ [])
  pub firsts : AreFirst needs homes placed (path ++ top ∷ [])
  pub counts : (n : ℕ) → count_of n (map (slice_index homes) (path ++ top ∷ [])) ≡ one_if (flag_at on n)
  pub waits : (n : ℕ) → flag_at on n ≡ true → flag_at placed n ≡ false
  pub long : length on ≡ count
  pub node : slice_index homes top < count
  pub size : length path + 1 ≡ count_true on

-- back from the top to the unit below it, if there is one
abbrev pub GoesBack : List ℕ → List ℕ → Option ℕ → Type 0
GoesBack was now None = (was ≡ []) × (now ≡ [])
GoesBack was now (Some below) = was ≡ now ++ below ∷ []

-- the part of a path with its top from the first unit of a node on, none where no unit is of the node
abbrev pub IsClosing : List ℕ → List ℕ → ℕ → ℕ → List ℕ → Type 0
IsClosing homes path top node units =
    (first : ℕ) × (units ≡ drop first (path ++ top ∷ []))
    × (first ≤ length (path ++ top ∷ []))
    × (first < length (path ++ top ∷ []) → slice_index homes (slice_index (path ++ top ∷ []) first) ≡ node)
    × (first ≡ length (path ++ top ∷ []) →
    (k : ℕ) → k < length (path ++ top ∷ []) → slice_index homes (slice_index (path ++ top ∷ []) k) ≢ node)

-- no node is on a path
abbrev pub IsOff : ℕ → List ℕ → List Bool → Type 0
IsOff count path on = (path ≡ []) × (length on ≡ count) × ((n : ℕ) → flag_at on n ≡ false)

abbrev pub IsAtRest : Graph → Path → Type 0
IsAtRest g p = IsOff (length g.needs) p.units.items p.on.items

abbrev pub StandsOn : List (ℕ × ℕ) → Graph → Progress → Path → ℕ → Type 0
StandsOn deps g progress p top =
    OnPath (needs_at deps g) g.homes (length g.needs) progress.placed.items p.units.items p.on.items top
    × AllByRecursion (IsInside g) (p.units.items ++ top ∷ [])

-- A step along a path: up to a unit for which the top waited, or, where the top was placed, back to the
-- unit below it; there is none where the top was the first.
abbrev pub Steps : List (ℕ × ℕ) → Graph → Progress → Progress → Path → Path → ℕ → Option ℕ → Type 0
Steps deps g before after was path top None =
    IsAtRest g path
    × (was.units.items ≡ [])
    × (after.placed.items ≡ slice_set before.placed.items (home_at g top) true)
Steps deps g before after was path top (Some next) =
    StandsOn deps g after path next
    × (slice_index (path.units.items ++ next ∷ []) 0 ≡ slice_index (was.units.items ++ top ∷ []) 0)
    × (((after.placed.items ≡ before.placed.items)
    × (length path.units.items ≡ length was.units.items + 1))
    ⊎ ((after.placed.items ≡ slice_set before.placed.items (home_at g top) true)
    × (length path.units.items + 1 ≡ length was.units.items)))

-- what was placed stays so
abbrev pub StaysPlaced : List Bool → List Bool → Type 0
StaysPlaced before after = (n : ℕ) → flag_at before n ≡ true → flag_at after n ≡ true

-- the nodes of all units from the first one up to this number are placed
abbrev pub AreUnitsPlaced : Graph → List Bool → ℕ → Type 0
AreUnitsPlaced g placed unit =
    (x : ℕ) → g.first ≤ x → x < unit → flag_at placed (home_at g x) ≡ true

-- the first so many nodes are
abbrev pub AreAllPlaced : List Bool → ℕ → Type 0
AreAllPlaced placed count = (n : ℕ) → n < count → flag_at placed n ≡ true

-- the nodes are the units in their order, and depend on lesser ones alone
abbrev pub IsRising : List (ℕ × ℕ) → Graph → Type 0
IsRising deps g =
    ((x : ℕ) → IsInside g x → home_at g x ≡ x - g.first)
    × (length g.needs ≡ length g.homes - g.first)
    × ((n x : ℕ) → Stands x (needs_at deps g n) → home_at g x < n)
