use Rattle.vg_order_laws.proofs.Runs.{runs-are-steps}
use Rattle.vg_order_laws.proofs.law.runs_are_steps.Goals as goal

pub returns : goal.returns
returns c = runs-are-steps
