-- Plans that are kept.
use Rattle.std.specs.Prelude.{ℕ, Bool, List, [], filter, get_or, map, not}
use Rattle.std.specs.List.{list_any}
use Rattle.vg_cost.specs.Running.{StandsFor}
use Rattle.vg_kernel_plans.specs.Fed.{packing_by}
use Rattle.vg_packs.specs.Walk.{is_in_plan}
use Rattle.vg_plans.specs.Members.{Every}
use Rattle.vg_plans.specs.World.{tried}
use Rattle.vg_kernel_plans.specs.declared.choice.Choice.{Choice}
use Rattle.vg_shapes.specs.declared.match_table.Match.{Match}
use Rattle.vg_shapes.specs.declared.pack.Pack.{Pack}
use Rattle.vg_shapes.specs.declared.ssa.Ssa.{Ssa}
use Rattle.vg_shapes.specs.Description.{Description}
use Rattle.vg_shapes.specs.Pack.{units_of}
use Rattle.vg_beam.specs.declared.beam_plan.BeamPlan.{BeamPlan}
use Rattle.vg_beam.specs.PackTable.{no_pack}
use Rattle.vg_beam.specs.Key.{IsKey, Names}

abbrev pub plan_of : BeamPlan → List Pack
plan_of k = k.running.packs.items

abbrev pub plans_of : List BeamPlan → List (List Pack)
plans_of level = map plan_of level

-- the plan at a place of a level
abbrev pub plan_at : List BeamPlan → ℕ → List Pack
plan_at level place = get_or (plans_of level) place []

-- a pack shares no unit with a plan
abbrev pub is_apart : List Pack → Pack → Bool
is_apart plan p = not (list_any (is_in_plan plan) (units_of p))

-- a plan's cost, its key, and the numbers of the packs that are tried after it, but for those that share
-- a unit with it: they are told by the packs alone, whatever depends on what
pub record IsKept
    (ch : Choice) (ds : List Description) (matches : List Match) (ssa : Ssa) (packs : List Pack) (k : BeamPlan)
    : Type 0 where
  pub stands : StandsFor ds matches ssa k.running
  pub key : IsKey no_pack packs k.key (plan_of k)
  pub tried : Names no_pack packs k.tried (filter (is_apart (plan_of k)) (tried (packing_by ch ds matches ssa []) (plan_of k)))

-- by some table, what is known of the plans of a level is so
abbrev pub AreKept : Choice → List Description → List Match → Ssa → List BeamPlan → Type 0
AreKept ch ds matches ssa level = (packs : List Pack) × Every (IsKept ch ds matches ssa packs) level
