use Rattle.vg_rewrite.proofs.RepeatedRuns.{repeated-units_run_alike}
use Rattle.vg_rewrite.proofs.law.repeated_units_run_alike.Goals as goal

pub returns : goal.returns
returns c = repeated-units_run_alike
