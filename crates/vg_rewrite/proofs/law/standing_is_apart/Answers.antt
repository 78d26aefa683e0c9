use Rattle.vg_rewrite.proofs.Apart.{standing-is_apart}
use Rattle.vg_rewrite.proofs.law.standing_is_apart.Goals as goal

pub returns : goal.returns
returns c = standing-is_apart
