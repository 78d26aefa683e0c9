use Rattle.vg_canon.proofs.Steps.{leaf-finished, constant-finished}
use Rattle.vg_canon.proofs.canonical_form.leaves_are_canonical.Goals as goal

pub returns : goal.returns
returns c = record { leaves = leaf-finished; constants = constant-finished }
