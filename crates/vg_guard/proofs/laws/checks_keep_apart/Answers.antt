use Rattle.vg_guard.proofs.Apart.{checks-keep-apart}
use Rattle.vg_guard.proofs.laws.checks_keep_apart.Goals as goal

pub returns : goal.returns
returns c = checks-keep-apart
