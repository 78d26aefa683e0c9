use Rattle.vg_known.proofs.Absent.{same-is-same-with-more}
use Rattle.vg_known.proofs.law.same_is_same_with_more.Goals as goal

pub returns : goal.returns
returns c = same-is-same-with-more
