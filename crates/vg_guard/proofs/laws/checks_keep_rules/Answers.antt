use Rattle.vg_guard.proofs.Listed.{checks-keep-rules}
use Rattle.vg_guard.proofs.laws.checks_keep_rules.Goals as goal

pub returns : goal.returns
returns c = checks-keep-rules
