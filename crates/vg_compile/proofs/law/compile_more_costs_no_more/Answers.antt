use Rattle.vg_compile.proofs.OneProgram.{compile-more-costs-no-more}
use Rattle.vg_compile.proofs.law.compile_more_costs_no_more.Goals as goal

pub returns : goal.returns
returns c = compile-more-costs-no-more
