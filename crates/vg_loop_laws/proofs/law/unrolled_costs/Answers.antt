use Rattle.vg_loop_laws.proofs.Kept.{unrolled-costs}
use Rattle.vg_loop_laws.proofs.law.unrolled_costs.Goals as goal

pub returns : goal.returns
returns c = unrolled-costs
