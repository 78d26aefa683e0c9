use Rattle.vg_loop_laws.proofs.Kept.{one-turn-is-the-kernel}
use Rattle.vg_loop_laws.proofs.law.one_turn_is_the_kernel.Goals as goal

pub returns : goal.returns
returns c = one-turn-is-the-kernel
