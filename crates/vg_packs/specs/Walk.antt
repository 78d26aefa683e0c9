-- Ways from units down to those of a pack.
use Rattle.std.specs.Prelude.{◌≡◌, ◌<◌, ℕ, ◌+◌, ◌⊎◌, Bool, true, false, List, [], ◌∷◌, length, get_or, nat_eq, Option, Some, None, flat_map, if◌then◌else◌}
use Rattle.std.specs.List.{list_any}
use Rattle.vg_plans.specs.Members.{Has}
use Rattle.vg_plans.specs.World.{has_no_cycle, is_in}
use Rattle.vg_kernel_plans.specs.Packing.{needs_of, packing}
use Rattle.vg_shapes.specs.declared.match_table.Match.{Match}
use Rattle.vg_shapes.specs.declared.pack.Pack.{Pack}
use Rattle.vg_shapes.specs.declared.ssa.Ssa.{Ssa}
use Rattle.vg_shapes.specs.DepList.{is_listed, row_of}
use Rattle.vg_shapes.specs.Pack.{units_of}
use Rattle.vg_shapes.specs.Units.{is_unit}

-- a lane has this value
abbrev pub is_lane_of : ℕ → Option ℕ → Bool
is_lane_of v None = false
is_lane_of v (Some u) = nat_eq v u

-- a unit is one of a plan
abbrev pub is_in_plan : List Pack → ℕ → Bool
is_in_plan plan v = list_any (λ p. is_in v (units_of p)) plan

-- the units on which a pack depends, if a unit is one of it
abbrev pub needs_for : List Match → Ssa → List (ℕ × ℕ) → ℕ → Pack → List ℕ
needs_for matches ssa deps v p = if is_in v (units_of p) then needs_of matches ssa deps p else []

-- the units on which the node of a unit depends
abbrev pub node_needs : List Match → Ssa → List (ℕ × ℕ) → List Pack → ℕ → List ℕ
node_needs matches ssa deps plan v =
    if is_in_plan plan v then flat_map (needs_for matches ssa deps v) plan else row_of deps v

-- a list of dependences names units
abbrev pub NameUnits : Ssa → List (ℕ × ℕ) → Type 0
NameUnits ssa deps = (later earlier : ℕ) → is_listed deps later earlier ≡ true → is_unit ssa earlier ≡ true

-- each dependence that it lists is on an earlier number
abbrev pub NameEarlier : List (ℕ × ℕ) → Type 0
NameEarlier deps = (later earlier : ℕ) → is_listed deps later earlier ≡ true → earlier < later

-- a list of dependences names earlier units alone
pub record NameEarlierUnits (ssa : Ssa) (deps : List (ℕ × ℕ)) : Type 0 where
  pub units : NameUnits ssa deps
  pub earlier : NameEarlier deps

-- a plan has no cycle
abbrev pub IsFree : List Match → Ssa → List (ℕ × ℕ) → List Pack → Type 0
IsFree matches ssa deps plan = has_no_cycle (packing [] matches ssa deps) plan ≡ true

-- v is marked
abbrev pub IsAt : List Bool → ℕ → Type 0
IsAt marks v = get_or marks v false ≡ true

-- each number that is marked stays so
abbrev pub KeepMarks : List Bool → List Bool → Type 0
KeepMarks marks new_marks = (v : ℕ) → IsAt marks v → IsAt new_marks v

-- a way from v by needs down to a unit that the test holds of
pub data Way (needs : ℕ → List ℕ) (own : ℕ → Bool) : ℕ → Type 0 where
  there : (v : ℕ) → own v ≡ true → Way needs own v
  down : (v x : ℕ) → Has x (needs v) → Way needs own x → Way needs own v

-- a way from one of these
abbrev pub HasWay : (ℕ → List ℕ) → (ℕ → Bool) → List ℕ → Type 0
HasWay needs own starts = (first : ℕ) × Has first starts × Way needs own first

-- marks that have these, with each unit all on which it depends, and none of the pack
pub record IsApart (needs : ℕ → List ℕ) (own : ℕ → Bool) (starts : List ℕ) (marks : List Bool) : Type 0 where
  pub starts_marked : (x : ℕ) → Has x starts → IsAt marks x
  pub closed : (v x : ℕ) → IsAt marks v → Has x (needs v) → IsAt marks x
  pub away : (v : ℕ) → IsAt marks v → own v ≡ false

-- marked units depend on marked units, and none is of the pack
pub record IsSettled (needs : ℕ → List ℕ) (own : ℕ → Bool) (marks : List Bool) : Type 0 where
  pub closed : (v x : ℕ) → IsAt marks v → Has x (needs v) → IsAt marks x
  pub away : (v : ℕ) → IsAt marks v → own v ≡ false

abbrev pub count_open : List Bool → ℕ
count_open [] = 0
count_open (b ∷ bs) = if b then count_open bs else 1 + count_open bs

-- what a push of new units leaves
pub record Pushed
    (list : List ℕ) (marks : List Bool) (stack : List ℕ) (new_marks : List Bool) (new_stack : List ℕ)
    : Type 0 where
  pub stays : (v : ℕ) → IsAt marks v → IsAt new_marks v
  pub whole : (v : ℕ) → Has v list → IsAt new_marks v
  pub new : (v : ℕ) → IsAt new_marks v → IsAt marks v ⊎ (Has v list × Has v new_stack)
  pub kept : (v : ℕ) → Has v stack → Has v new_stack
  pub from : (v : ℕ) → Has v new_stack → Has v stack ⊎ Has v list
  pub long : length new_marks ≡ length marks
  pub level : count_open new_marks + length new_stack ≡ count_open marks + length stack

-- there are such marks
abbrev pub LeadsApart : (ℕ → List ℕ) → (ℕ → Bool) → List ℕ → Type 0
LeadsApart needs own starts = (marks : List Bool) × IsApart needs own starts marks

-- a lane has a value that the test holds of
abbrev pub is_lane_in : (ℕ → Bool) → Option ℕ → Bool
is_lane_in test None = false
is_lane_in test (Some v) = test v
