use Rattle.vg_kernel_plans.specs.Wants.{value_of}
use Rattle.vg_cost.proofs.Marking.{marked_three}
use Rattle.vg_cost.proofs.lines.mark_operands.Goals as goal

pub returns : goal.returns
returns c =
    marked_three value_of c.args.operands.now.first c.args.operands.now.second c.args.operands.now.third _ _ _ _
    c.mark_wanted.ensures c.mark_wanted-2.ensures c.mark_wanted-3.ensures
