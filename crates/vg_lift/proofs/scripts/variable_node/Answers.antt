use Rattle.std.proofs.Common.{sym, ap, ◌∙◌, slice_get}
use Rattle.vg_lift.proofs.Puts.{some_variable, some_wide}
use Rattle.vg_lift.proofs.scripts.variable_node.Goals as goal

pub returns-in-Some-clause-node : goal.returns-in-Some-clause-node
returns-in-Some-clause-node c =
    let found = ap (λ l. slice_get l c.args.variable) (sym c.as_slice.ensures.value) ∙ sym c.node_in.ensures ∙ c.in-Some.is in
    some_variable c.args.pool.now c.args.state.now c.args.variable c.in-Some.node c.requires found

pub returns-in-Some-clause-wide : goal.returns-in-Some-clause-wide
returns-in-Some-clause-wide c =
    let found = ap (λ l. slice_get l c.args.variable) (sym c.as_slice.ensures.value) ∙ sym c.node_in.ensures ∙ c.in-Some.is in
    some_wide c.args.pool.now c.args.state.now c.args.variable c.in-Some.node c.requires found
