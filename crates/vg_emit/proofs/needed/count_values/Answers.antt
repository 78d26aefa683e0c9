use Rattle.std.proofs.Common.{ap, arith, length}
use Rattle.vg_emit.proofs.Limits.{few-values}
use Rattle.vg_emit.proofs.needed.count_values.Goals as goal

pub overflow_add-result : goal.overflow_add-result
overflow_add-result c =
    let few = few-values c.args.ssa.now c.requires in
    omega (arith, few, c.arguments.ensures, ap length c.as_slice.ensures)

pub overflow_cast-result : goal.overflow_cast-result
overflow_cast-result c =
    let few = few-values c.args.ssa.now c.requires in
    omega (arith, few, c.arguments.ensures, ap length c.as_slice.ensures)
