use Rattle.std.proofs.Common.{◌≡◌, ◌∙◌, subst, sym, List, map}
use Rattle.std.specs.Prelude.{slice_index_or}
use Rattle.std.proofs.lemmas.Result.{err_from_is_err_and}
use Rattle.vg_shapes.specs.declared.order.Node.{Node}
use Rattle.vg_shapes.specs.declared.order.Node.TheVariants.{UnitAt}
use Rattle.vg_shapes.specs.declared.pack.Pack.{Pack}
use Rattle.vg_order.specs.ByList.{IsOrderBy}
use Rattle.vg_order.specs.Graphs.{IsGraphOf}
use Rattle.vg_order.proofs.Dependences.{is-graph}
use Rattle.vg_order.specs.Scheduled.{IsScheduled}
use Rattle.vg_order.proofs.Orders.{graph-numbers, graph-order, graph-tells}
use Rattle.vg_order.proofs.Scheduled.{graph-scheduled}
use Rattle.vg_order.proofs.scheduling.schedule.Goals as goal

pub place_all-requires : goal.place_all-requires
place_all-requires c =
    is-graph c.args.deps.now c.args.ssa.now c.args.table.now c.as_slice.result.now c.in_ok-graph.graph c.in_ok-graph.ensures c.requires.units

pub returns-in_err-numbers-clause-cycle : goal.returns-in_err-numbers-clause-cycle
returns-in_err-numbers-clause-cycle c =
    let g = c.in_ok-graph.graph in
    let is = subst (λ (l : List Pack). IsGraphOf c.args.ssa.now c.args.table.now l g) c.as_slice.ensures c.in_ok-graph.ensures in
    let told = err_from_is_err_and c.from_residual-in_err-numbers.result c.from_residual-in_err-numbers.ensures.1 in
    rw (told.1, told.2) (graph-tells c.args.deps.now c.args.ssa.now c.args.table.now c.args.plan.now g _ is c.requires.units c.in_err-numbers.ensures.cycle)

pub returns-clause-order : goal.returns-clause-order
returns-clause-order c =
    let deps = c.args.deps.now in
    let ssa = c.args.ssa.now in
    let table = c.args.table.now in
    let packs = c.args.plan.now in
    let g = c.in_ok-graph.graph in
    let order = c.in_ok-numbers.numbers.items in
    let is : IsGraphOf ssa table packs g = subst (λ (l : List Pack). IsGraphOf ssa table l g) c.as_slice.ensures c.in_ok-graph.ensures in
    let found : c.from_vec.result ≡ map (λ n. slice_index_or g.nodes n (UnitAt 0)) order =
    c.from_vec.ensures ∙ c.in_ok-nodes.ensures
    ∙ (λ i. map (λ n. slice_index_or (c.as_slice-2.ensures i) n (UnitAt 0)) (c.as_slice-3.ensures.value i)) in
    subst (λ (l : List Node). IsOrderBy deps ssa table packs l) (sym found) (graph-order deps ssa table packs g order is c.requires.units c.in_ok-numbers.ensures.order)

pub returns-clause-numbers : goal.returns-clause-numbers
returns-clause-numbers c =
    let deps = c.args.deps.now in
    let ssa = c.args.ssa.now in
    let table = c.args.table.now in
    let packs = c.args.plan.now in
    let g = c.in_ok-graph.graph in
    let order = c.in_ok-numbers.numbers.items in
    let is : IsGraphOf ssa table packs g = subst (λ (l : List Pack). IsGraphOf ssa table l g) c.as_slice.ensures c.in_ok-graph.ensures in
    let found : c.from_vec.result ≡ map (λ n. slice_index_or g.nodes n (UnitAt 0)) order =
    c.from_vec.ensures ∙ c.in_ok-nodes.ensures
    ∙ (λ i. map (λ n. slice_index_or (c.as_slice-2.ensures i) n (UnitAt 0)) (c.as_slice-3.ensures.value i)) in
    graph-numbers deps ssa table packs g order c.from_vec.result is c.requires.units c.in_ok-numbers.ensures.rising found

pub returns-clause-scheduled : goal.returns-clause-scheduled
returns-clause-scheduled c =
    let deps = c.args.deps.now in
    let ssa = c.args.ssa.now in
    let table = c.args.table.now in
    let packs = c.args.plan.now in
    let g = c.in_ok-graph.graph in
    let order = c.in_ok-numbers.numbers.items in
    let is : IsGraphOf ssa table packs g = subst (λ (l : List Pack). IsGraphOf ssa table l g) c.as_slice.ensures c.in_ok-graph.ensures in
    let found : c.from_vec.result ≡ map (λ n. slice_index_or g.nodes n (UnitAt 0)) order =
    c.from_vec.ensures ∙ c.in_ok-nodes.ensures
    ∙ (λ i. map (λ n. slice_index_or (c.as_slice-2.ensures i) n (UnitAt 0)) (c.as_slice-3.ensures.value i)) in
    subst (λ (l : List Node). IsScheduled deps ssa table packs l) (sym found)
    (graph-scheduled deps ssa table packs g order c.requires.packs is c.requires.units c.in_ok-numbers.ensures.order c.in_ok-numbers.ensures.next)
