use Rattle.vg_rewrite.proofs.NarrowedLaw.{narrowed-units_run_alike}
use Rattle.vg_rewrite.proofs.law.narrowed_units_run_alike.Goals as goal

pub returns : goal.returns
returns c = narrowed-units_run_alike
