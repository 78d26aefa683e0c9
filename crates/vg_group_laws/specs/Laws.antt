-- What runs of loads, load groups and aligned store groups promise.
use Rattle.std.specs.Prelude.{◌≡◌, ℕ, List, length, Some, slice_get}
use Rattle.vg_base.specs.declared.address.Address.{Address}
use Rattle.vg_base.specs.declared.width.Width.{Width}
use Rattle.vg_group_laws.specs.Cuts.{AreCutFrom}
use Rattle.vg_group_laws.specs.Runs.{IsFirstLoad, IsWholeRun, PlacedLoad}
use Rattle.vg_group_laws.specs.Tiles.{IsTile}
use Rattle.vg_kernel_plans.specs.Groups.{aligned_groups, store_groups}
use Rattle.vg_kernel_plans.specs.LoadGroups.{first_loads, groups_in, load_groups, run_begins, run_of}
use Rattle.vg_plans.specs.Members.{Has}
use Rattle.vg_shapes.specs.declared.pack.Pack.{Pack}
use Rattle.vg_shapes.specs.declared.pack.Pack.TheVariants.{Stores}
use Rattle.vg_shapes.specs.declared.ssa.Ssa.{Ssa}
use Rattle.vg_shapes.specs.Pack.{units_of}

-- the load is one of those that begin runs
abbrev pub Begins : Ssa → PlacedLoad → Type 0
Begins ssa l = Has l (run_begins (first_loads ssa))

-- the unit stands in the run that the load begins
abbrev pub IsInRun : Ssa → PlacedLoad → ℕ → Type 0
IsInRun ssa l v = Has v (run_of (first_loads ssa) l)

-- a run cannot be made longer, at either end
abbrev pub RunsCannotBeLonger : Type 0
RunsCannotBeLonger =
    (ssa : Ssa) (l : PlacedLoad) → Begins ssa l → IsWholeRun ssa l (run_of (first_loads ssa) l)

-- a unit stands in the run of one load and of no other
pub record IsInOneRun (ssa : Ssa) (v : ℕ) : Type 0 where
  pub begin : PlacedLoad
  pub begins : Begins ssa begin
  pub in_run : IsInRun ssa begin v
  pub only : (l : PlacedLoad) → Begins ssa l → IsInRun ssa l v → l ≡ begin

-- the first load of each place and width stands in one run, and runs have nothing else
pub record AreInRuns (ssa : Ssa) : Type 0 where
  pub in_one : (a : Address) (w : Width) (v : ℕ) → IsFirstLoad ssa a w v → IsInOneRun ssa v
  pub nothing_else :
      (l : PlacedLoad) (v : ℕ) → Begins ssa l → IsInRun ssa l v
      → (a : Address) × IsFirstLoad ssa a l.width v

abbrev pub FirstLoadsAreInRuns : Type 0
FirstLoadsAreInRuns = (ssa : Ssa) → AreInRuns ssa

-- the groups of the run of a load are cut from it
abbrev pub GroupsAreCutFromRuns : Type 0
GroupsAreCutFromRuns =
    (register : ℕ) (loads : List PlacedLoad) (l : PlacedLoad)
    → AreCutFrom register l.width (run_of loads l) (groups_in register loads l)

-- no unit stands in two groups, or twice in one
pub record AreApart (groups : List Pack) : Type 0 where
  pub one_group :
      (i j : ℕ) (p q : Pack) (v : ℕ) → slice_get groups i ≡ Some p → slice_get groups j ≡ Some q
      → Has v (units_of p) → Has v (units_of q) → i ≡ j
  pub once :
      (p : Pack) (i j v : ℕ) → Has p groups → slice_get (units_of p) i ≡ Some v
      → slice_get (units_of p) j ≡ Some v → i ≡ j

abbrev pub LoadGroupsAreApart : Type 0
LoadGroupsAreApart = (ssa : Ssa) (register : ℕ) → AreApart (load_groups ssa register)

-- the aligned groups are the store groups that begin a multiple of as many places behind the place where
-- their run begins
pub record AreTiles (ssa : Ssa) : Type 0 where
  pub tiles :
      (p : Pack) → Has p (aligned_groups ssa) → (us : List ℕ) × (p ≡ Stores us) × IsTile ssa us
  pub all :
      (us : List ℕ) → Has (Stores us) (store_groups ssa) → IsTile ssa us
      → Has (Stores us) (aligned_groups ssa)

abbrev pub AlignedGroupsAreTiles : Type 0
AlignedGroupsAreTiles = (ssa : Ssa) → AreTiles ssa

-- two aligned groups of as many stores are the same or have no unit in common
abbrev pub AlignedGroupsTile : Type 0
AlignedGroupsTile =
    (ssa : Ssa) (p q : Pack) (v : ℕ) → Has p (aligned_groups ssa) → Has q (aligned_groups ssa)
    → length (units_of p) ≡ length (units_of q) → Has v (units_of p) → Has v (units_of q) → p ≡ q
