use Rattle.std.proofs.Common.{◌+◌, sym, ap, ◌∙◌}
use Rattle.std.specs.Prelude.{nat_eq, ◌&&◌}
use Rattle.std.proofs.lemmas.Bool.{eq-eqb, ne_eqb}
use Rattle.vg_lift.proofs.Nodes.{continues_at}
use Rattle.vg_lift.proofs.run.continues.Goals as goal

pub returns-then-node-next : goal.returns-then-node-next
returns-then-node-next c =
    let d = c.in-Terms-OfTerm in
    c.is_behind-then-node-next.ensures
    ∙ ap (λ t. t && nat_eq d.bit (d.low + d.count)) (sym (eq-eqb d.node d.next c.if-node-next.true))
    ∙ continues_at c.args.pool.now c.args.run c.args.bit d.node d.width-0 d.low d.count d.next d.width-1 d.bit d.is-0 d.is-1 c.pool_is_shared.ensures c.requires.run c.requires.bit

pub returns-else-node-next : goal.returns-else-node-next
returns-else-node-next c =
    let d = c.in-Terms-OfTerm in
    ne_eqb d.node d.next c.if-node-next.false
    ∙ ap (λ t. t && nat_eq d.bit (d.low + d.count)) (sym (ne_eqb d.node d.next c.if-node-next.false))
    ∙ continues_at c.args.pool.now c.args.run c.args.bit d.node d.width-0 d.low d.count d.next d.width-1 d.bit d.is-0 d.is-1 c.pool_is_shared.ensures c.requires.run c.requires.bit
