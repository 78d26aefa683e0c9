use Rattle.std.proofs.Common.{[]}
use Rattle.vg_levelled.proofs.added.tally.Goals as goal

pub returns : goal.returns
returns c = c.in_ok-add_all.ensures [] c.new-tally.ensures
