use Rattle.vg_guard.proofs.OneGuarded.{one-guarded}
use Rattle.vg_guard.proofs.laws.one_guarded_is_compiled.Goals as goal

pub returns : goal.returns
returns c = one-guarded
