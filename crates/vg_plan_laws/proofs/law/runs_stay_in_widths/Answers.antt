use Rattle.vg_plan_laws.proofs.Calls.{runs-stay}
use Rattle.vg_plan_laws.proofs.law.runs_stay_in_widths.Goals as goal

pub returns : goal.returns
returns c = runs-stay
