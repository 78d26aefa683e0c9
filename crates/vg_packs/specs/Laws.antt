-- What the list of store groups promises, and what holds of dependences.
use Rattle.std.specs.Prelude.{◌≡◌, ℕ, List}
use Rattle.vg_kernel_plans.specs.Groups.{store_groups}
use Rattle.vg_kernel_plans.specs.SameAs.{same_pack}
use Rattle.vg_plans.specs.Members.{AllDiffer, Has}
use Rattle.vg_shapes.specs.declared.pack.Pack.{Pack}
use Rattle.vg_shapes.specs.declared.pack.Pack.TheVariants.{Stores, Loads, Call}
use Rattle.vg_shapes.specs.declared.ssa.Ssa.{Ssa}
use Rattle.vg_shapes.specs.DepList.{is_listed}
use Rattle.vg_shapes.specs.Depends.{depends_on}
use Rattle.vg_shapes.specs.Pack.{IsStoreGroup}
use Rattle.vg_packs.specs.Walk.{NameEarlierUnits}

-- a pack is a store group
abbrev pub IsGroup : Ssa → Pack → Type 0
IsGroup ssa (Stores us) = IsStoreGroup ssa us
IsGroup ssa (Loads us) = ⊥
IsGroup ssa (Call d lanes) = ⊥

-- each of the list is a store group, and each store group is in the list, once
pub record GroupsAreListed (ssa : Ssa) : Type 0 where
  pub right : (p : Pack) → Has p (store_groups ssa) → IsGroup ssa p
  pub whole : (us : List ℕ) → IsStoreGroup ssa us → Has (Stores us) (store_groups ssa)
  pub once : AllDiffer same_pack (store_groups ssa)

abbrev pub StoreGroupsAreListed : Type 0
StoreGroupsAreListed = (ssa : Ssa) → GroupsAreListed ssa

-- a list that has exactly the dependences of a kernel names earlier units alone
abbrev pub DependencesAreEarlier : Type 0
DependencesAreEarlier =
    (ssa : Ssa) (deps : List (ℕ × ℕ))
    → ((later earlier : ℕ) → is_listed deps later earlier ≡ depends_on ssa later earlier)
    → NameEarlierUnits ssa deps
