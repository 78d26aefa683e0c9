use Rattle.vg_events.proofs.Traps.{trap-together}
use Rattle.vg_events.proofs.law.trap_together.Goals as goal

pub returns : goal.returns
returns c = trap-together
