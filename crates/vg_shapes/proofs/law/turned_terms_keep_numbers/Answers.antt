use Rattle.vg_shapes.proofs.Turning.{turned-keeps}
use Rattle.vg_shapes.proofs.law.turned_terms_keep_numbers.Goals as goal

pub returns : goal.returns
returns c = turned-keeps
