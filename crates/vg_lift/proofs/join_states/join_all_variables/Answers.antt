use Rattle.std.proofs.Common.{arith}
use Rattle.vg_lift.proofs.StateSteps.{nodes_kept, listed_node}
use Rattle.vg_lift.proofs.join_states.join_all_variables.Goals as goal

pub join_variable-requires-clause-x : goal.join_variable-requires-clause-x
join_variable-requires-clause-x c =
    listed_node c.variables.pool c.args.xs.now c.variables.place (omega (arith, c.variables-test.true)) (nodes_kept c.args.pool.now c.variables.pool c.args.xs.now c.variables.invariant.keeps c.requires.xs)

pub join_variable-requires-clause-y : goal.join_variable-requires-clause-y
join_variable-requires-clause-y c =
    listed_node c.variables.pool c.args.ys.now c.variables.place (omega (arith, c.variables-test.true, c.requires.same)) (nodes_kept c.args.pool.now c.variables.pool c.args.ys.now c.variables.invariant.keeps c.requires.ys)
