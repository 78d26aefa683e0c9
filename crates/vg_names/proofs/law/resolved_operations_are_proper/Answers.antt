use Rattle.vg_names.proofs.Resolving.{resolved-proper}
use Rattle.vg_names.proofs.law.resolved_operations_are_proper.Goals as goal

pub returns : goal.returns
returns c = resolved-proper
