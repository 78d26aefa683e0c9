use Rattle.vg_loop_grammar.proofs.LoopsAgain.{refused-exactly-where-no-loop}
use Rattle.vg_loop_grammar.proofs.law.refused_exactly_where_no_loop.Goals as goal

pub returns : goal.returns
returns c = refused-exactly-where-no-loop
