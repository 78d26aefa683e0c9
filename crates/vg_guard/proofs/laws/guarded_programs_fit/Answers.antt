use Rattle.vg_guard.proofs.GuardedSizes.{guarded-fits}
use Rattle.vg_guard.proofs.laws.guarded_programs_fit.Goals as goal

pub returns : goal.returns
returns c = guarded-fits
