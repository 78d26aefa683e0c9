-- What the packs of plans are.
use Rattle.std.specs.Prelude.{◌≡◌, ℕ, ◌/◌, true, List, length, Option, Some, slice_get}
use Rattle.std.specs.List.{list_all}
use Rattle.vg_shapes.specs.declared.match_table.Match.{Match}
use Rattle.vg_shapes.specs.declared.pack.Pack.{Pack}
use Rattle.vg_shapes.specs.declared.pack.Pack.TheVariants.{Stores, Loads, Call}
use Rattle.vg_shapes.specs.declared.ssa.Ssa.{Ssa}
use Rattle.vg_shapes.specs.Description.{Description}
use Rattle.vg_shapes.specs.Pack.{IsLoadPack, IsStoreGroup}
use Rattle.vg_kernel_plans.specs.Producers.{agree, are_matched}
use Rattle.vg_kernel_plans.specs.Taken.{operands_of}

-- A call of a description that is there: each lane that has a value matches it, and lanes that bind
-- one leaf bind it to the same.
pub record IsMatchedCall
    (ds : List Description) (matches : List Match) (ssa : Ssa) (d : ℕ) (lanes : List (Option ℕ))
    : Type 0 where
  pub entry : Description
  pub there : slice_get ds d ≡ Some entry
  pub long : length lanes ≡ entry.register / entry.lane_width
  pub matched : are_matched matches d 0 lanes ≡ true
  pub agreed : list_all (λ o. agree o.slots) (operands_of ds matches ssa (Call d lanes)) ≡ true

-- a store group, consecutive loads, or a call whose lanes match
abbrev pub IsMade : List Description → List Match → Ssa → Pack → Type 0
IsMade ds matches ssa (Stores us) = IsStoreGroup ssa us
IsMade ds matches ssa (Loads us) = IsLoadPack ssa us
IsMade ds matches ssa (Call d lanes) = IsMatchedCall ds matches ssa d lanes
