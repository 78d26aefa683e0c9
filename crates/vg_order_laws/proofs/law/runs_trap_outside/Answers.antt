use Rattle.vg_order_laws.proofs.Traps.{runs-trap-outside}
use Rattle.vg_order_laws.proofs.law.runs_trap_outside.Goals as goal

pub returns : goal.returns
returns c = runs-trap-outside
