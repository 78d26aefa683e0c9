use Rattle.vg_kernel_plans.specs.Wants.{value_of}
use Rattle.vg_cost.proofs.Moving.{counted_three}
use Rattle.vg_cost.proofs.counts.count_operands.Goals as goal

pub returns : goal.returns
returns c =
    counted_three c.args.more c.args.number (value_of c.args.operands.now.first) (value_of c.args.operands.now.second)
    (value_of c.args.operands.now.third) _ _ _ _ _ _ _ _
    c.in_ok-count_under.ensures c.in_ok-count_under-2.ensures c.in_ok-count_under-3.ensures
