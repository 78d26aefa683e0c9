use Rattle.vg_pseudo_laws.proofs.OperationsAgain.{operation-again}
use Rattle.vg_pseudo_laws.proofs.law.what_is_in_the_grammar_is_read.Goals as goal

pub returns : goal.returns
returns c = operation-again
