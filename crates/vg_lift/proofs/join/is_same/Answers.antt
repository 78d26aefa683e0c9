use Rattle.std.proofs.Common.{sym, ap, ◌∙◌}
use Rattle.std.specs.Prelude.{nat_eq, ◌&&◌}
use Rattle.std.proofs.lemmas.Bool.{eq-eqb, ne_eqb}
use Rattle.vg_lift.proofs.Nodes.{same_at}
use Rattle.vg_lift.proofs.join.is_same.Goals as goal

pub returns-then-node-other : goal.returns-then-node-other
returns-then-node-other c =
    let d = c.in-OfTerm-OfTerm in
    ap (λ t. t && nat_eq d.bit d.second) (sym (eq-eqb d.node d.other c.if-node-other.true))
    ∙ same_at c.args.pool.now c.args.x c.args.y d.node d.width-0 d.bit d.other d.width-1 d.second d.is-0 d.is-1 c.pool_is_shared.ensures c.requires.x c.requires.y

pub returns-else-node-other : goal.returns-else-node-other
returns-else-node-other c =
    let d = c.in-OfTerm-OfTerm in
    ne_eqb d.node d.other c.if-node-other.false
    ∙ ap (λ t. t && nat_eq d.bit d.second) (sym (ne_eqb d.node d.other c.if-node-other.false))
    ∙ same_at c.args.pool.now c.args.x c.args.y d.node d.width-0 d.bit d.other d.width-1 d.second d.is-0 d.is-1 c.pool_is_shared.ensures c.requires.x c.requires.y
