-- Plans that are met: a plan that was kept with a pack after it.
use Rattle.std.specs.Prelude.{◌≡◌, ◌<◌, ◌++◌, ◌∷◌, ℕ, List, [], length, map}
use Rattle.vg_kernel_plans.specs.Fed.{IsPlanBy}
use Rattle.vg_kernel_plans.specs.Laws.{cost_of}
use Rattle.vg_kernel_plans.specs.Taken.{IsShort}
use Rattle.vg_plans.specs.Members.{Every}
use Rattle.vg_kernel_plans.specs.declared.choice.Choice.{Choice}
use Rattle.vg_shapes.specs.declared.match_table.Match.{Match}
use Rattle.vg_shapes.specs.declared.pack.Pack.{Pack}
use Rattle.vg_shapes.specs.declared.ssa.Ssa.{Ssa}
use Rattle.vg_shapes.specs.Description.{Description}
use Rattle.vg_beam.specs.declared.candidate.Candidate.{Candidate}
use Rattle.vg_beam.specs.declared.beam_plan.BeamPlan.{BeamPlan}
use Rattle.vg_beam.specs.declared.pack_table.PackTable.{PackTable}
use Rattle.vg_beam.specs.PackTable.{Grows, IsPackTable, pack_at}
use Rattle.vg_beam.specs.BeamPlan.{IsKept, plan_at, plan_of, plans_of}

-- the plan of a candidate
abbrev pub grown_plan : List Pack → List BeamPlan → Candidate → List Pack
grown_plan packs level c = plan_at level c.parent ++ pack_at packs c.pack ∷ []

abbrev pub grown_plans : List Pack → List BeamPlan → List Candidate → List (List Pack)
grown_plans packs level met = map (grown_plan packs level) met

-- the plan of the level and the pack are there
pub record IsPlaced (packs : List Pack) (level : List BeamPlan) (c : Candidate) : Type 0 where
  pub parent : c.parent < length level
  pub pack : c.pack < length packs

pub record IsCandidate
    (ch : Choice) (ds : List Description) (matches : List Match) (ssa : Ssa) (deps : List (ℕ × ℕ))
    (packs : List Pack) (level : List BeamPlan) (c : Candidate)
    : Type 0 where
  pub placed : IsPlaced packs level c
  pub plan : IsPlanBy ch ds matches ssa deps (grown_plan packs level c)
  pub cost : c.cost ≡ cost_of ds matches ssa deps (grown_plan packs level c)

-- a candidate whose plan is one by some list of dependences, and whose pack has few lanes
pub record CanGrow
    (ch : Choice) (ds : List Description) (matches : List Match) (ssa : Ssa)
    (packs : List Pack) (level : List BeamPlan) (c : Candidate)
    : Type 0 where
  pub placed : IsPlaced packs level c
  pub short : IsShort (pack_at packs c.pack)
  pub plan : (deps : List (ℕ × ℕ)) × IsPlanBy ch ds matches ssa deps (grown_plan packs level c)

-- a candidate of a level is kept, in a table that grew
pub record IsGrown
    (ch : Choice) (ds : List Description) (matches : List Match) (ssa : Ssa)
    (old new : PackTable) (level : List BeamPlan) (c : Candidate) (k : BeamPlan)
    : Type 0 where
  pub pack_table : IsPackTable ch ds matches ssa new
  pub grows : Grows old.packs.items new.packs.items
  pub kept : IsKept ch ds matches ssa new.packs.items k
  pub plan : plan_of k ≡ grown_plan old.packs.items level c

-- candidates of a level are kept, in a table that grew
pub record AreGrown
    (ch : Choice) (ds : List Description) (matches : List Match) (ssa : Ssa)
    (old new : PackTable) (level : List BeamPlan) (cs : List Candidate) (ks : List BeamPlan)
    : Type 0 where
  pub pack_table : IsPackTable ch ds matches ssa new
  pub grows : Grows old.packs.items new.packs.items
  pub kept : Every (IsKept ch ds matches ssa new.packs.items) ks
  pub plans : plans_of ks ≡ grown_plans old.packs.items level cs
