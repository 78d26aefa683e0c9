use Rattle.vg_plain_laws.proofs.Units.{plain-plans-leave-nothing}
use Rattle.vg_plain_laws.proofs.law.plain_plans_leave_nothing.Goals as goal

pub returns : goal.returns
returns c = plain-plans-leave-nothing
