use Rattle.vg_turn_laws.proofs.Ends.{loops-end-within-memory}
use Rattle.vg_turn_laws.proofs.law.loops_end_within_memory.Goals as goal

pub returns : goal.returns
returns c = loops-end-within-memory
