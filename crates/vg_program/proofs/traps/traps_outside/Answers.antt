use Rattle.vg_program.proofs.TrapLaws.{traps_outside}
use Rattle.vg_program.proofs.traps.traps_outside.Goals as goal

pub returns : goal.returns
returns c = traps_outside
