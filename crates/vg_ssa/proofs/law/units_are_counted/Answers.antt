use Rattle.vg_ssa.proofs.Counts.{arguments_first, units-are_the_cost}
use Rattle.vg_ssa.proofs.law.units_are_counted.Goals as goal

pub returns-clause-cost : goal.returns-clause-cost
returns-clause-cost c = units-are_the_cost

pub returns-clause-first : goal.returns-clause-first
returns-clause-first c = arguments_first
