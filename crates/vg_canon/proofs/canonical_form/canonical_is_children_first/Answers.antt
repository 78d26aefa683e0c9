use Rattle.vg_canon.proofs.Forms.{canonical-is}
use Rattle.vg_canon.proofs.canonical_form.canonical_is_children_first.Goals as goal

pub returns : goal.returns
returns c = canonical-is
