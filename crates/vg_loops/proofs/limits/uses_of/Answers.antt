use Rattle.std.proofs.Common.{◌≡◌, ◌+◌, ◌-◌, ◌≤◌, ℕ, map, ap, ◌∙◌, arith}
use Rattle.std.specs.Prelude.{sum_by}
use Rattle.vg_kernel.specs.Cost.{uses_of, statement_cost}
use Rattle.vg_kernel.specs.Tree.{statement_of}
use Rattle.vg_loops.specs.Counts.{stores_in}
use Rattle.vg_loops.proofs.MayTurn.{cost-split}
use Rattle.vg_loops.proofs.limits.uses_of.Goals as goal

pub overflow_sub-result : goal.overflow_sub-result
overflow_sub-result c =
    let cost = c.scalar_cost-cost.ensures in
    let stores = c.stores_in-stores.ensures ∙ ap (λ ss. stores_in (map statement_of ss)) c.as_slice.ensures in
    let split = cost-split (map statement_of c.args.kernel.now.statements) in
    omega (arith, cost, stores, split)

pub returns : goal.returns
returns c =
    let cost = c.scalar_cost-cost.ensures in
    let stores = c.stores_in-stores.ensures ∙ ap (λ ss. stores_in (map statement_of ss)) c.as_slice.ensures in
    let split = cost-split (map statement_of c.args.kernel.now.statements) in
    omega (arith, cost, stores, split)
