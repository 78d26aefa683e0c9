use Rattle.std.proofs.Common.{arith}
use Rattle.vg_paired.proofs.Balancing.{takes-over, takes-some}
use Rattle.vg_paired.proofs.balance.Balance.take.Goals as goal

pub returns-in_ok-set : goal.returns-in_ok-set
returns-in_ok-set c =
    takes-some c.args.self.now.left c.set.new.self c.args.self.now.least c.args.label c.number_of-left.result c.number_of-left.ensures (omega arith) c.in_ok-set.ensures

pub returns-else-left-gt0 : goal.returns-else-left-gt0
returns-else-left-gt0 c =
    takes-over c.args.self.now.left c.args.self.now.least c.args.label c.lesser.result c.number_of-left.result c.number_of-left.ensures (omega arith) c.lesser.ensures
