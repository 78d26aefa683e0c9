use Rattle.vg_loop_laws.proofs.Most.{fewer-keep-limits}
use Rattle.vg_loop_laws.proofs.law.fewer_keep_limits.Goals as goal

pub returns : goal.returns
returns c = fewer-keep-limits
