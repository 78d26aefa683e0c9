use Rattle.vg_run_laws.proofs.SameWithMore.{same-with-more}
use Rattle.vg_run_laws.proofs.law.same_with_more.Goals as goal

pub returns : goal.returns
returns c = same-with-more c.same_is_told_with_more.ensures
