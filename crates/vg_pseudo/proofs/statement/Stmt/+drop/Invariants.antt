use Rattle.std.proofs.Common.{◌≤◌}
use Rattle.vg_pseudo.specs.declared.statement.Stmt.{size-Stmt}
use Rattle.vg_pseudo.proofs.statement.Stmt.+drop.Given as goal

abbrev pub invariant-rest : goal.invariant-rest
invariant-rest l = size-Stmt l.self ≤ size-Stmt l.fn.self
