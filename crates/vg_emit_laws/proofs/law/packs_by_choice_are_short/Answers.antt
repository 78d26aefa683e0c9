use Rattle.vg_emit_laws.proofs.Near.{packs-are-short-by}
use Rattle.vg_emit_laws.proofs.law.packs_by_choice_are_short.Goals as goal

pub returns : goal.returns
returns c = packs-are-short-by
