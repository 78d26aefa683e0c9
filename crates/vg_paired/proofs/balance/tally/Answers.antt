use Rattle.std.proofs.Common.{◌≤◌, arith}
use Rattle.vg_paired.proofs.Balancing.{tally-small, tally-turn}
use Rattle.vg_paired.proofs.balance.tally.Goals as goal

pub overflow_add-count : goal.overflow_add-count
overflow_add-count c =
    let small : c.number_of-count.result ≤ c.labels.label-index = tally-small c.args.labels.now c.labels.label-index c.labels.counts _ c.number_of-count.result c.number_of-count.ensures c.labels.invariant (omega arith) in
    omega arith

pub labels-preserved : goal.labels-preserved
labels-preserved c =
    tally-turn c.args.labels.now c.labels.label-index _ c.labels.counts c.set.new.self c.number_of-count.result c.labels-test.true c.number_of-count.ensures c.labels.invariant c.in_ok-set.ensures
