use Rattle.vg_interval_laws.proofs.Made.{ends-are-made}
use Rattle.vg_interval_laws.proofs.law.ends_are_made.Goals as goal

pub returns : goal.returns
returns c = ends-are-made
