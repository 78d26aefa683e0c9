use Rattle.vg_pseudo_laws.proofs.OperationsFound.{operation-found}
use Rattle.vg_pseudo_laws.proofs.law.what_is_read_is_in_the_grammar.Goals as goal

pub returns : goal.returns
returns c = operation-found
