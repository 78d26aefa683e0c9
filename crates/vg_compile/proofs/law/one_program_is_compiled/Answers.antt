use Rattle.vg_compile.proofs.OneProgram.{one-program}
use Rattle.vg_compile.proofs.law.one_program_is_compiled.Goals as goal

pub returns : goal.returns
returns c = one-program
