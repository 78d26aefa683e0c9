use Rattle.vg_emit_laws.proofs.Emitted.{emitted-programs-are-right}
use Rattle.vg_emit_laws.proofs.law.emitted_programs_are_right.Goals as goal

pub returns : goal.returns
returns c = emitted-programs-are-right
