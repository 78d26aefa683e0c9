use Rattle.std.proofs.Common.{◌≤◌}
use Rattle.vg_pseudo.specs.declared.expression.Arguments.{size-Arguments}
use Rattle.vg_pseudo.proofs.expression.+expression.Given as goal

abbrev pub invariant-Arguments::drop-rest :
    goal.invariant-Arguments::drop-rest
invariant-Arguments::drop-rest l = size-Arguments l.self ≤ size-Arguments l.fn.self
