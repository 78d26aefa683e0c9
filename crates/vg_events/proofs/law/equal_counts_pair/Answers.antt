use Rattle.vg_events.proofs.Ranks.{equal-counts-pair}
use Rattle.vg_events.proofs.law.equal_counts_pair.Goals as goal

pub returns : goal.returns
returns c = equal-counts-pair
