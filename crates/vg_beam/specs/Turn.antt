-- What a turn of the search leaves.
use Rattle.std.specs.Prelude.{◌≡◌, ℕ, List}
use Rattle.vg_kernel_plans.specs.declared.choice.Choice.{Choice}
use Rattle.vg_kernel_plans.specs.Fed.{IsPlanBy, packing_by}
use Rattle.vg_kernel_plans.specs.Laws.{cost_of}
use Rattle.vg_plans.specs.Levels.{candidates, first_least, kept_of}
use Rattle.vg_plans.specs.Members.{Every}
use Rattle.vg_plans.specs.World.{follows, same_packs}
use Rattle.vg_shapes.specs.declared.match_table.Match.{Match}
use Rattle.vg_shapes.specs.declared.pack.Pack.{Pack}
use Rattle.vg_shapes.specs.declared.ssa.Ssa.{Ssa}
use Rattle.vg_shapes.specs.Description.{Description}
use Rattle.vg_beam.specs.declared.pack_table.PackTable.{PackTable}
use Rattle.vg_beam.specs.declared.turn.Turned.{Turned}
use Rattle.vg_beam.specs.PackTable.{IsPackTable}
use Rattle.vg_beam.specs.BeamPlan.{IsKept, plans_of}

-- the plans of one pack more than those of a level that are kept, in a table that grew, and the first of
-- the least cost in a list of a plan and those that are met
pub record IsTurn
    (ch : Choice) (ds : List Description) (matches : List Match) (ssa : Ssa) (deps : List (ℕ × ℕ))
    (width : ℕ) (from : List (List Pack)) (least : List Pack) (b : PackTable) (t : Turned)
    : Type 0 where
  pub pack_table : IsPackTable ch ds matches ssa b
  pub kept : Every (IsKept ch ds matches ssa b.packs.items) t.next.items
  pub plans : Every (IsPlanBy ch ds matches ssa deps) (plans_of t.next.items)
  pub level :
      plans_of t.next.items
      ≡ kept_of (cost_of ds matches ssa deps) width
      (candidates (follows (packing_by ch ds matches ssa deps))
      (same_packs (packing_by ch ds matches ssa deps)) from)
  pub best :
      t.better.plan
      ≡ first_least (cost_of ds matches ssa deps) least
      (candidates (follows (packing_by ch ds matches ssa deps))
      (same_packs (packing_by ch ds matches ssa deps)) from)
  pub cost : t.better.cost ≡ cost_of ds matches ssa deps t.better.plan
