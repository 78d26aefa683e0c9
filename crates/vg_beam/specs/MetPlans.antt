-- The plans of a level that were met.
use Rattle.std.specs.Prelude.{◌≡◌, ℕ, Bool, List}
use Rattle.std.specs.List.{list_any}
use Rattle.vg_kernel_plans.specs.Fed.{packing_by}
use Rattle.vg_plans.specs.Levels.{distinct_onto}
use Rattle.vg_plans.specs.Members.{Every}
use Rattle.vg_plans.specs.World.{same_packs, stays_plan}
use Rattle.vg_kernel_plans.specs.declared.choice.Choice.{Choice}
use Rattle.vg_shapes.specs.declared.match_table.Match.{Match}
use Rattle.vg_shapes.specs.declared.pack.Pack.{Pack}
use Rattle.vg_shapes.specs.declared.ssa.Ssa.{Ssa}
use Rattle.vg_shapes.specs.Description.{Description}
use Rattle.vg_beam.specs.declared.beam_plan.BeamPlan.{BeamPlan}
use Rattle.vg_beam.specs.declared.met_plans.MetPlans.{MetPlans}
use Rattle.vg_beam.specs.PackTable.{no_pack}
use Rattle.vg_beam.specs.Candidate.{IsCandidate, grown_plans}
use Rattle.vg_beam.specs.Grown.{grown_by}
use Rattle.vg_beam.specs.Key.{IsKey, has_key}

-- some plan that was met has this key
abbrev pub is_known : MetPlans → List ℕ → Bool
is_known m key = has_key (λ k. k.items) m.keys.keys key

-- the candidates, and the keys of their plans
pub record IsMet
    (ch : Choice) (ds : List Description) (matches : List Match) (ssa : Ssa) (deps : List (ℕ × ℕ))
    (packs : List Pack) (level : List BeamPlan) (m : MetPlans)
    : Type 0 where
  pub candidates : Every (IsCandidate ch ds matches ssa deps packs level) m.candidates.items
  pub known :
      (key : List ℕ) (plan : List Pack) → IsKey no_pack packs key plan
      → is_known m key
      ≡ list_any (same_packs (packing_by ch ds matches ssa deps) plan) (grown_plans packs level m.candidates.items)

-- a plan is met with each of these packs after it with which it stays a plan
pub record Meets
    (ch : Choice) (ds : List Description) (matches : List Match) (ssa : Ssa) (deps : List (ℕ × ℕ))
    (packs : List Pack) (level : List BeamPlan) (plan tried : List Pack) (old new : MetPlans)
    : Type 0 where
  pub met : IsMet ch ds matches ssa deps packs level new
  pub plans :
      grown_plans packs level new.candidates.items
      ≡ distinct_onto (same_packs (packing_by ch ds matches ssa deps)) (grown_plans packs level old.candidates.items)
      (grown_by (stays_plan (packing_by ch ds matches ssa deps) plan) plan tried)
