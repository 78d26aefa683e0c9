use Rattle.vg_guarded_loop.proofs.Texts.{what-is-read-is-a-guarded-loop}
use Rattle.vg_guarded_loop.proofs.law.what_is_read_is_a_guarded_loop.Goals as goal

pub returns : goal.returns
returns c = what-is-read-is-a-guarded-loop
