use Rattle.vg_loop_laws.proofs.Layouts.{blocks-respect}
use Rattle.vg_loop_laws.proofs.law.blocks_respect.Goals as goal

pub returns : goal.returns
returns c = blocks-respect
