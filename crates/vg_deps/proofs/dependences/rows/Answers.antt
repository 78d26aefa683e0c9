use Rattle.std.proofs.Common.{◌++◌, [], ◌∷◌, length, ap, ◌∙◌, arith}
use Rattle.vg_shapes.specs.Depends.{depended}
use Rattle.vg_deps.proofs.Rows.{few_values, rows_more}
use Rattle.vg_deps.proofs.dependences.rows.Goals as goal

pub overflow_add-count : goal.overflow_add-count
overflow_add-count c =
    let few = few_values c.args.ssa.now c.requires.sound in
    let first = c.arguments-first.ensures in
    let long = ap length c.as_slice.ensures in
    omega arith

pub values-preserved : goal.values-preserved
values-preserved c =
    c.in_ok-push.ensures.items ∙ ap (λ row. c.values.rows.items ++ row ∷ []) c.in_ok-row.ensures
    ∙ rows_more (depended c.args.ssa.now) c.values.value c.values.rows.items c.values.invariant
