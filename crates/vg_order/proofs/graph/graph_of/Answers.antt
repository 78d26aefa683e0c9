use Rattle.std.proofs.Common.{ℕ, List, Option, length, ◌∙◌, ap, subst, sym, arith}
use Rattle.vg_shapes.specs.declared.order.Node.{Node}
use Rattle.vg_order.specs.declared.needs.Needs.{Needs}
use Rattle.vg_order.specs.Graphs.{AreOwners, IsGraphOf}
use Rattle.vg_order.proofs.Graphs.{few-nodes, graph-made}
use Rattle.vg_order.proofs.graph.graph_of.Goals as goal

pub homes-requires-clause-few : goal.homes-requires-clause-few
homes-requires-clause-few c =
    let long = ap length c.as_slice.ensures.value ∙ c.in_ok-owners.ensures.long in
    let packs = c.if-packs-gt-MOST.false in
    let first = c.if-first-gt-MOST.false in
    let count = c.if-count-gt-MOST.false in
    few-nodes (length c.args.packs.now) 0 c.in_ok-list.list.nodes.items c.as_slice.result.now c.in_ok-list.ensures.nodes (omega arith) (omega arith)

pub returns : goal.returns
returns c =
    let packs = c.args.packs.now in
    let ssa = c.args.ssa.now in
    let table = c.args.table.now in
    let first = c.arguments-first.result in
    let count = length c.as_slice-count.result.now in
    let owners = c.as_slice.result.now in
    let now = c.homes.new.list in
    let homes = c.in_ok-homes.homes.items in
    let few_packs = c.if-packs-gt-MOST.false in
    let few_first = c.if-first-gt-MOST.false in
    let few_count = c.if-count-gt-MOST.false in
    let made = graph-made ssa table packs first count c.in_ok-list.list.nodes.items now.nodes.items c.in_ok-list.list.needs.items now.needs.items owners homes
    c.arguments-first.ensures (ap length c.as_slice-count.ensures)
    (omega arith, omega arith, omega arith)
    c.in_ok-list.ensures.nodes c.in_ok-list.ensures.needs
    (ap length c.as_slice.ensures.value ∙ c.in_ok-owners.ensures.long)
    (subst (λ (l : List (Option ℕ)). AreOwners packs packs l) (sym c.as_slice.ensures.value) c.in_ok-owners.ensures.owners)
    c.in_ok-homes.ensures.long c.in_ok-homes.ensures.nodes c.in_ok-homes.ensures.needs c.in_ok-homes.ensures.homes in
    subst (λ (q : List Node). IsGraphOf ssa table packs (record { first = first; nodes = q; needs = c.from_vec-2.result; homes = c.from_vec-3.result })) (sym c.from_vec.ensures)
    (subst (λ (q : List Needs). IsGraphOf ssa table packs (record { first = first; nodes = now.nodes.items; needs = q; homes = c.from_vec-3.result })) (sym c.from_vec-2.ensures)
    (subst (λ (q : List ℕ). IsGraphOf ssa table packs (record { first = first; nodes = now.nodes.items; needs = now.needs.items; homes = q })) (sym c.from_vec-3.ensures) made))
