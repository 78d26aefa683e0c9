use Rattle.vg_rewrite.proofs.Apart.{rewritten-units_run_alike}
use Rattle.vg_rewrite.proofs.law.rewritten_units_run_alike.Goals as goal

pub returns : goal.returns
returns c = rewritten-units_run_alike
