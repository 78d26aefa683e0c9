use Rattle.std.proofs.Common.{subst}
use Rattle.std.proofs.lemmas.Result.{IfOk-weaker}
use Rattle.vg_pool.specs.Pool.{StandsFor}
use Rattle.vg_lift.proofs.StateSteps.{joined_same, joined_apart}
use Rattle.vg_lift.proofs.join_states.join_variable.Goals as goal

pub returns-then-x-y-clause-is : goal.returns-then-x-y-clause-is
returns-then-x-y-clause-is c =
    joined_same c.args.pool.now c.args.c c.args.x c.args.y c.if-x-y.true c.pool_is_shared.ensures c.requires.x c.requires.y

pub returns-else-x-y-clause-is : goal.returns-else-x-y-clause-is
returns-else-x-y-clause-is c =
    IfOk-weaker c.sel.result _ _ (λ n s. subst (StandsFor c.sel.new.self n) (joined_apart c.args.pool.now c.args.c c.args.x c.args.y c.if-x-y.false c.pool_is_shared.ensures c.requires.x c.requires.y) s) c.sel.ensures.node
