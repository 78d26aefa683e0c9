use Rattle.std.proofs.Common.{refl, inl, inr}
use Rattle.vg_plans.specs.Completed.{careful_plan}
use Rattle.vg_plans.specs.PlainPlan.{plain_plan}
use Rattle.vg_plans.proofs.Completed.{below-completed, fed-below, optimal-fed}
use Rattle.vg_plans.proofs.law.chosen_fed_is_least.Goals as goal

pub returns : goal.returns
returns c w turns width sizes = record {
  optimal = λ is plan m le free. optimal-fed w is turns width sizes plan m le free;
  below_plain = fed-below w turns width sizes (plain_plan w turns) (inl refl);
  below_careful = fed-below w turns width sizes (careful_plan w turns) (inr (inl refl));
  below_completed = λ plan h. below-completed w turns width sizes plan h;
}
