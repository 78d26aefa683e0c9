use Rattle.vg_emit_laws.proofs.Near.{matches-are-of-units}
use Rattle.vg_emit_laws.proofs.law.matches_are_of_units.Goals as goal

pub returns : goal.returns
returns c = matches-are-of-units
