use Rattle.std.proofs.Common.{◌≡◌, ◌∙◌, IfOk, ap, subst, sym}
use Rattle.vg_known.specs.WiderDifference.{equal_wholes, small_whole}
use Rattle.vg_pool.specs.Pool.{StandsFor}
use Rattle.vg_forms.specs.Wholes.{AreWholes, trees_in}
use Rattle.vg_forms.proofs.WholeNodes.{by-nodes, keeps-twice, trees-kept, wholes-kept}
use Rattle.vg_forms.proofs.wholes.Wholes.are_equal.Goals as goal

pub returns-in_err-x-clause-kept : goal.returns-in_err-x-clause-kept
returns-in_err-x-clause-kept c = trees-kept c.self.inside.pool c.small_node.new.pool c.self.inside.all.items
    c.small_node.ensures.keeps c.self.invariant ∙ c.self.view_is

pub small_node-requires-2 : goal.small_node-requires-2
small_node-requires-2 c =
    subst (AreWholes c.small_node.new.pool) (sym c.deref-2.ensures.value)
    (wholes-kept c.self.inside.pool c.small_node.new.pool c.self.inside.all.items c.small_node.ensures.keeps
    c.self.invariant)

pub invariant_of-self-in_err-y : goal.invariant_of-self-in_err-y
invariant_of-self-in_err-y c =
    wholes-kept c.self.inside.pool c.small_node-2.new.pool c.self.inside.all.items
    (keeps-twice c.self.inside.pool c.small_node.new.pool c.small_node-2.new.pool c.small_node.ensures.keeps
    c.small_node-2.ensures.keeps) c.self.invariant

pub returns-in_err-y-clause-kept : goal.returns-in_err-y-clause-kept
returns-in_err-y-clause-kept c =
    trees-kept c.self.inside.pool c.small_node-2.new.pool c.self.inside.all.items
    (keeps-twice c.self.inside.pool c.small_node.new.pool c.small_node-2.new.pool c.small_node.ensures.keeps
    c.small_node-2.ensures.keeps) c.self.invariant ∙ c.self.view_is

pub invariant_of-self-2 : goal.invariant_of-self-2
invariant_of-self-2 c =
    wholes-kept c.self.inside.pool c.small_node-2.new.pool c.self.inside.all.items
    (keeps-twice c.self.inside.pool c.small_node.new.pool c.small_node-2.new.pool c.small_node.ensures.keeps
    c.small_node-2.ensures.keeps) c.self.invariant

pub returns-clause-is : goal.returns-clause-is
returns-clause-is c =
    let p = c.self.inside.pool in
    let q = c.small_node.new.pool in
    let r = c.small_node-2.new.pool in
    let ws = c.self.inside.all.items in
    let left = subst (λ l. StandsFor q c.in_ok-x.x (small_whole (trees_in p l) c.args.t.now)) c.deref.ensures.value
    c.in_ok-x.ensures.node in
    let right = subst (λ l. StandsFor r c.in_ok-y.y (small_whole (trees_in q l) c.args.u.now)) c.deref-2.ensures.value
    c.in_ok-y.ensures.node in
    let equal = by-nodes p q r ws c.in_ok-x.x c.in_ok-y.y c.args.t.now c.args.u.now c.self.invariant
    c.small_node.ensures.keeps c.small_node-2.ensures.keeps left right in
    subst (λ b. IfOk c.are_equal_nodes.result (λ same. same ≡ b))
    (equal ∙ ap (λ l. equal_wholes l c.args.t.now c.args.u.now) c.self.view_is) c.are_equal_nodes.ensures.is

pub returns-clause-kept : goal.returns-clause-kept
returns-clause-kept c =
    trees-kept c.self.inside.pool c.small_node-2.new.pool c.self.inside.all.items
    (keeps-twice c.self.inside.pool c.small_node.new.pool c.small_node-2.new.pool c.small_node.ensures.keeps
    c.small_node-2.ensures.keeps) c.self.invariant ∙ c.self.view_is
