use Rattle.vg_plain_laws.proofs.Units.{completed-plans-end-in-time}
use Rattle.vg_plain_laws.proofs.law.completed_plans_end_in_time.Goals as goal

pub returns : goal.returns
returns c = completed-plans-end-in-time
