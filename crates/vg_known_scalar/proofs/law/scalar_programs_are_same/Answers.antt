use Rattle.vg_known_scalar.proofs.Same.{scalar-programs-are-same}
use Rattle.vg_known_scalar.proofs.law.scalar_programs_are_same.Goals as goal

pub returns : goal.returns
returns c = scalar-programs-are-same
