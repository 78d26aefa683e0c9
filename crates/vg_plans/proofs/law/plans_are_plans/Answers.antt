use Rattle.vg_plans.specs.World.{follows, same_packs, plan_cost}
use Rattle.vg_plans.specs.PlainPlan.{plain_plan}
use Rattle.vg_plans.proofs.Plain.{plain-plan, chosen-plan}
use Rattle.vg_plans.proofs.law.plans_are_plans.Goals as goal

pub returns : goal.returns
returns c w width sizes turns =
    (plain-plan w turns, chosen-plan (follows w) (same_packs w) (plan_cost w) width sizes (plain_plan w turns) (plain-plan w turns))
