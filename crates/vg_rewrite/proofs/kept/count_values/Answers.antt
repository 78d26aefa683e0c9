use Rattle.std.proofs.Common.{length, ap, arith}
use Rattle.vg_rewrite.proofs.kept.count_values.Goals as goal

pub overflow_add-result : goal.overflow_add-result
overflow_add-result c =
    let few = c.requires in
    let first = c.arguments.ensures in
    let units = ap length c.as_slice.ensures in
    omega arith

pub returns-clause-few : goal.returns-clause-few
returns-clause-few c =
    let few = c.requires in
    let first = c.arguments.ensures in
    let units = ap length c.as_slice.ensures in
    omega arith
