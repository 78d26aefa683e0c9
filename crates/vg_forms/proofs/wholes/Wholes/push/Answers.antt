use Rattle.std.proofs.Common.{◌≡◌, [], ◌∷◌, ◌++◌, ◌∙◌, List, ap, subst, sym}
use Rattle.vg_terms.specs.Term.{Tree}
use Rattle.vg_pool.specs.Pool.{StandsFor}
use Rattle.vg_known.specs.WiderDifference.{small_whole}
use Rattle.vg_forms.specs.Wholes.{AreWholes, trees_in}
use Rattle.vg_forms.proofs.WholeNodes.{pushed, pushed-are}
use Rattle.vg_forms.proofs.wholes.Wholes.push.Goals as goal

pub invariant_of-self-2 : goal.invariant_of-self-2
invariant_of-self-2 c =
    let ws = c.self.inside.all.items in
    subst (AreWholes c.small_node.new.pool) (sym c.in_ok-push.ensures.items)
    (pushed-are c.self.inside.pool c.small_node.new.pool ws
    (record { node = c.in_ok-node.node; width = c.width.result }) c.args.t.now c.self.invariant
    c.small_node.ensures.keeps
    (subst (λ l. StandsFor c.small_node.new.pool c.in_ok-node.node
    (small_whole (trees_in c.self.inside.pool l) c.args.t.now)) c.deref.ensures.value c.in_ok-node.ensures.node)
    c.width.ensures)

pub returns : goal.returns
returns c =
    let ws = c.self.inside.all.items in
    ap (trees_in c.small_node.new.pool) c.in_ok-push.ensures.items
    ∙ pushed c.self.inside.pool c.small_node.new.pool ws (record { node = c.in_ok-node.node; width = c.width.result })
    c.args.t.now c.self.invariant c.small_node.ensures.keeps
    (subst (λ l. StandsFor c.small_node.new.pool c.in_ok-node.node
    (small_whole (trees_in c.self.inside.pool l) c.args.t.now)) c.deref.ensures.value c.in_ok-node.ensures.node)
    ∙ ap (λ (l : List Tree). l ++ small_whole l c.args.t.now ∷ []) c.self.view_is
