use Rattle.vg_plans.proofs.Plans.{go_by_packs}
use Rattle.vg_plans.proofs.law.plans_go_by_packs.Goals as goal

pub returns : goal.returns
returns c w is = go_by_packs w is
