use Rattle.std.proofs.Common.{map}
use Rattle.vg_kernel.specs.Tree.{statement_of}
use Rattle.vg_ssa.specs.Built.{built}
use Rattle.vg_ssa.proofs.Building.{item-room, item-step}
use Rattle.vg_ssa.proofs.values.Values.number_statements.Goals as goal

pub number_statement-requires : goal.number_statement-requires
number_statement-requires c =
    item-room (built c.args.self.now) (map statement_of c.args.statements.now) (built c.statements.self) c.statements.rest.now c.statement-item.result c.in-len1-up.len_at_least c.statement-item.is c.statements.invariant

pub statements-preserved : goal.statements-preserved
statements-preserved c =
    item-step (built c.args.self.now) (map statement_of c.args.statements.now) (built c.statements.self) (built c.number_statement.new.self) c.statements.rest.now c.statement-item.result c.in-len1-up.len_at_least c.statement-item.is c.in_ok-number_statement.ensures c.statements.invariant
