use Rattle.vg_levelled.proofs.Valid.{added-can-be-numbered}
use Rattle.vg_levelled.proofs.law.added_can_be_numbered.Goals as goal

pub returns : goal.returns
returns c = added-can-be-numbered
