use Rattle.vg_emit_laws.proofs.Near.{packs-are-short}
use Rattle.vg_emit_laws.proofs.law.packs_are_short.Goals as goal

pub returns : goal.returns
returns c = packs-are-short
