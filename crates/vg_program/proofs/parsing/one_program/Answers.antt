use Rattle.vg_program.proofs.ProgramLaws.{one_text}
use Rattle.vg_program.proofs.parsing.one_program.Goals as goal

pub returns : goal.returns
returns c = one_text
