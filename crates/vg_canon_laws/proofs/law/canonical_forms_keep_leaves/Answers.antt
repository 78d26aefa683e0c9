use Rattle.vg_canon_laws.proofs.Leaves.{canonical-keeps-leaves}
use Rattle.vg_canon_laws.proofs.law.canonical_forms_keep_leaves.Goals as goal

pub returns : goal.returns
returns c = canonical-keeps-leaves
