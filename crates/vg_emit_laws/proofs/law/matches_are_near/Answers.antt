use Rattle.vg_emit_laws.proofs.Near.{matches-are-near}
use Rattle.vg_emit_laws.proofs.law.matches_are_near.Goals as goal

pub returns : goal.returns
returns c = matches-are-near
