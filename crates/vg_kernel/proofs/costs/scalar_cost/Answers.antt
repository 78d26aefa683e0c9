use Rattle.std.proofs.Common.{map, arith}
use Rattle.vg_kernel.specs.Tree.{statement_of}
use Rattle.vg_kernel.proofs.CostLaws.{cost-most}
use Rattle.vg_kernel.proofs.costs.scalar_cost.Goals as goal

pub cost_of-requires : goal.cost_of-requires
cost_of-requires c = rw c.as_slice.ensures (omega (arith, cost-most (map statement_of c.args.kernel.now.statements), c.requires.statements, c.requires.uses))
