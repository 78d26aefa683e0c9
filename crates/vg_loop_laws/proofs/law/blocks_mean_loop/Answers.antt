use Rattle.vg_loop_laws.proofs.Looped.{blocks-mean-loop}
use Rattle.vg_loop_laws.proofs.law.blocks_mean_loop.Goals as goal

pub returns : goal.returns
returns c = blocks-mean-loop
