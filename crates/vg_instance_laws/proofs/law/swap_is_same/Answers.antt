use Rattle.vg_instance_laws.proofs.Swap.{swap-is-same}
use Rattle.vg_instance_laws.proofs.law.swap_is_same.Goals as goal

pub returns : goal.returns
returns c = swap-is-same c.resolved_operations_are_proper.ensures c.same_means_units.ensures
