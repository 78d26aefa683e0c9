use Rattle.vg_run_laws.proofs.OneAnswer.{one-answer}
use Rattle.vg_run_laws.proofs.law.one_answer.Goals as goal

pub returns : goal.returns
returns c = one-answer
