use Rattle.vg_levelled.proofs.Valid.{added-keeps-rules}
use Rattle.vg_levelled.proofs.law.added_keeps_rules.Goals as goal

pub returns : goal.returns
returns c = added-keeps-rules
