use Rattle.vg_looped_laws.proofs.Valid.{looped_programs_are_valid}
use Rattle.vg_looped_laws.proofs.law.looped_programs_are_valid.Goals as goal

pub returns : goal.returns
returns c = looped_programs_are_valid
