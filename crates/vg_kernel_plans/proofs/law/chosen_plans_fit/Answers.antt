use Rattle.std.proofs.Common.{[], ◌∷◌, refl, inl}
use Rattle.vg_plans.specs.Levels.{met_within}
use Rattle.vg_plans.specs.World.{follows, plan_cost, same_packs}
use Rattle.vg_plans.proofs.Lists.{least-below}
use Rattle.vg_plans.proofs.Plain.{chosen-plan, plain-plan}
use Rattle.vg_kernel_plans.specs.Packing.{packing, plain_of, sizes_of}
use Rattle.vg_kernel_plans.proofs.Least.{least-first}
use Rattle.vg_kernel_plans.proofs.law.chosen_plans_fit.Goals as goal

pub returns : goal.returns
returns c ds matches ssa deps width =
    let w = packing ds matches ssa deps in
    let plain = plain_of ds matches ssa deps in
    let met = met_within (follows w) (same_packs w) (plan_cost w) width (sizes_of ssa) in
    record {
      plain = plain-plan w _;
      plan = chosen-plan (follows w) (same_packs w) (plan_cost w) width (sizes_of ssa) plain (plain-plan w _);
      below_plain = least-below (plan_cost w) [] plain (plain ∷ met) (inl refl);
      below_scalar = least-first (plan_cost w) [] (plain ∷ met);
    }
