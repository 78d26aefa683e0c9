use Rattle.vg_plan_laws.proofs.Calls.{calls-hold}
use Rattle.vg_plan_laws.proofs.law.calls_hold.Goals as goal

pub returns : goal.returns
returns c = calls-hold
