use Rattle.vg_shapes.proofs.Replacing.{replaced-value}
use Rattle.vg_shapes.proofs.law.replaced_leaves_keep_numbers.Goals as goal

pub returns : goal.returns
returns c = replaced-value
