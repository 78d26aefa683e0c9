use Rattle.vg_check.proofs.WithMore.{told-with-more}
use Rattle.vg_check.proofs.law.same_is_told_with_more.Goals as goal

pub returns : goal.returns
returns c = told-with-more c.same_is_same_with_more.ensures
