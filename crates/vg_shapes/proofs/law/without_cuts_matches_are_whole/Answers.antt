use Rattle.vg_shapes.proofs.WholeTables.{wide-is-whole}
use Rattle.vg_shapes.proofs.law.without_cuts_matches_are_whole.Goals as goal

pub returns : goal.returns
returns c = wide-is-whole
