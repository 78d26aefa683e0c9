use Rattle.vg_compile.proofs.More.{more-plans-cost-no-more}
use Rattle.vg_compile.proofs.law.more_plans_cost_no_more.Goals as goal

pub returns : goal.returns
returns c = more-plans-cost-no-more
