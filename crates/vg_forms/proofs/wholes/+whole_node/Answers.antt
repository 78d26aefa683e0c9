use Rattle.std.proofs.Common.{◌≡◌, ◌<◌, ap, subst, sym, ◌∙◌, IfOk, arith}
use Rattle.vg_terms.specs.Term.{node_count, sel, tree, two, TwoFits, WellFormed, width_of}
use Rattle.vg_pool.specs.Pool.{Keeps, StandsFor, tree_at}
use Rattle.vg_known.specs.WiderDifference.{whole}
use Rattle.vg_forms.specs.Wholes.{trees_in}
use Rattle.vg_forms.proofs.WholeNodes.{at-width, keeps-twice, later, node-kept, wholes-kept}
use Rattle.vg_forms.proofs.wholes.+whole_node.Goals as goal

pub two-requires-clause-fits : goal.two-requires-clause-fits
two-requires-clause-fits t c =
    let formed = subst (λ u. WellFormed (tree u)) c.in-Two.is c.requires.formed in
    let p = c.args.pool.now in
    let q = c.whole_node-in-Two.new.pool in
    let r = c.whole_node-in-Two-2.new.pool in
    let wholes = trees_in p c.args.all.now in
    let x : tree_at r c.in_ok-x-in-Two.x ≡ whole wholes (tree c.in-Two.x.value) =
    node-kept q r c.in_ok-x-in-Two.x (whole wholes (tree c.deref-in-Two.result.now))
    c.whole_node-in-Two-2.ensures.keeps c.in_ok-x-in-Two.ensures.node
    ∙ ap (λ d. whole wholes (tree d)) c.deref-in-Two.ensures in
    let y : tree_at r c.in_ok-y-in-Two.y ≡ whole wholes (tree c.in-Two.y.value) =
    later p q r c.args.all.now c.in_ok-y-in-Two.y (tree c.deref-in-Two-2.result.now) c.requires.wholes
    c.whole_node-in-Two.ensures.keeps c.in_ok-y-in-Two.ensures.node
    ∙ ap (λ d. whole wholes (tree d)) c.deref-in-Two-2.ensures in
    subst (λ n. TwoFits c.in-Two.op c.in-Two.width n (width_of (tree_at r c.in_ok-y-in-Two.y)))
    (sym (at-width r c.in_ok-x-in-Two.x wholes (tree c.in-Two.x.value) x))
    (subst (TwoFits c.in-Two.op c.in-Two.width (width_of (tree c.in-Two.x.value)))
    (sym (at-width r c.in_ok-y-in-Two.y wholes (tree c.in-Two.y.value) y)) formed.1)

pub returns-in_ok-y-in-Two-clause-node : goal.returns-in_ok-y-in-Two-clause-node
returns-in_ok-y-in-Two-clause-node t c =
    let p = c.args.pool.now in
    let q = c.whole_node-in-Two.new.pool in
    let r = c.whole_node-in-Two-2.new.pool in
    let wholes = trees_in p c.args.all.now in
    let x : tree_at r c.in_ok-x-in-Two.x ≡ whole wholes (tree c.in-Two.x.value) =
    node-kept q r c.in_ok-x-in-Two.x (whole wholes (tree c.deref-in-Two.result.now))
    c.whole_node-in-Two-2.ensures.keeps c.in_ok-x-in-Two.ensures.node
    ∙ ap (λ d. whole wholes (tree d)) c.deref-in-Two.ensures in
    let y : tree_at r c.in_ok-y-in-Two.y ≡ whole wholes (tree c.in-Two.y.value) =
    later p q r c.args.all.now c.in_ok-y-in-Two.y (tree c.deref-in-Two-2.result.now) c.requires.wholes
    c.whole_node-in-Two.ensures.keeps c.in_ok-y-in-Two.ensures.node
    ∙ ap (λ d. whole wholes (tree d)) c.deref-in-Two-2.ensures in
    subst (λ u. IfOk c.two.result (λ n. StandsFor c.two.new.self n (whole wholes (tree u)))) (sym c.in-Two.is)
    (subst (λ b. IfOk c.two.result (λ n. StandsFor c.two.new.self n
    (two c.in-Two.op c.in-Two.width (whole wholes (tree c.in-Two.x.value)) b))) y
    (subst (λ a. IfOk c.two.result (λ n. StandsFor c.two.new.self n
    (two c.in-Two.op c.in-Two.width a (tree_at r c.in_ok-y-in-Two.y)))) x c.two.ensures.node))

pub whole_node-requires-in-Sel-2 : goal.whole_node-requires-in-Sel-2
whole_node-requires-in-Sel-2 t c =
    let formed = subst (λ u. WellFormed (tree u)) c.in-Sel.is c.requires.formed in
    let whole = ap (λ u. node_count (tree u)) c.in-Sel.is in
    let part = ap (λ u. node_count (tree u)) c.deref-in-Sel-2.ensures in (
      omega (arith, c.decreases, whole, part),
      (
        wholes-kept c.args.pool.now c.whole_node-in-Sel.new.pool c.args.all.now c.whole_node-in-Sel.ensures.keeps
            c.requires.wholes,
        subst (λ d. WellFormed (tree d)) (sym c.deref-in-Sel-2.ensures) formed.3,
      ),
    )

pub whole_node-requires-in-Sel-3 : goal.whole_node-requires-in-Sel-3
whole_node-requires-in-Sel-3 t c =
    let formed = subst (λ u. WellFormed (tree u)) c.in-Sel.is c.requires.formed in
    let whole = ap (λ u. node_count (tree u)) c.in-Sel.is in
    let part = ap (λ u. node_count (tree u)) c.deref-in-Sel-3.ensures in (
      omega (arith, c.decreases, whole, part),
      (
        wholes-kept c.args.pool.now c.whole_node-in-Sel-2.new.pool c.args.all.now
            (keeps-twice c.args.pool.now c.whole_node-in-Sel.new.pool c.whole_node-in-Sel-2.new.pool
            c.whole_node-in-Sel.ensures.keeps c.whole_node-in-Sel-2.ensures.keeps) c.requires.wholes,
        subst (λ d. WellFormed (tree d)) (sym c.deref-in-Sel-3.ensures) formed.4,
      ),
    )

pub sel-requires-clause-condition : goal.sel-requires-clause-condition
sel-requires-clause-condition t c =
    let formed = subst (λ u. WellFormed (tree u)) c.in-Sel.is c.requires.formed in
    let p = c.args.pool.now in
    let q = c.whole_node-in-Sel.new.pool in
    let r = c.whole_node-in-Sel-2.new.pool in
    let z = c.whole_node-in-Sel-3.new.pool in
    let wholes = trees_in p c.args.all.now in
    let behind = keeps-twice q r z c.whole_node-in-Sel-2.ensures.keeps c.whole_node-in-Sel-3.ensures.keeps in
    let front = keeps-twice p q r c.whole_node-in-Sel.ensures.keeps c.whole_node-in-Sel-2.ensures.keeps in
    let condition : tree_at z c.in_ok-c-in-Sel.c ≡ whole wholes (tree c.in-Sel.c.value) =
    node-kept q z c.in_ok-c-in-Sel.c (whole wholes (tree c.deref-in-Sel.result.now)) behind
    c.in_ok-c-in-Sel.ensures.node ∙ ap (λ d. whole wholes (tree d)) c.deref-in-Sel.ensures in
    let x : tree_at z c.in_ok-x-in-Sel.x ≡ whole wholes (tree c.in-Sel.x.value) =
    c.whole_node-in-Sel-3.ensures.keeps.trees c.in_ok-x-in-Sel.x c.in_ok-x-in-Sel.ensures.node.within
    ∙ later p q r c.args.all.now c.in_ok-x-in-Sel.x (tree c.deref-in-Sel-2.result.now) c.requires.wholes
    c.whole_node-in-Sel.ensures.keeps c.in_ok-x-in-Sel.ensures.node
    ∙ ap (λ d. whole wholes (tree d)) c.deref-in-Sel-2.ensures in
    let y : tree_at z c.in_ok-y-in-Sel.y ≡ whole wholes (tree c.in-Sel.y.value) =
    later p r z c.args.all.now c.in_ok-y-in-Sel.y (tree c.deref-in-Sel-3.result.now) c.requires.wholes front
    c.in_ok-y-in-Sel.ensures.node ∙ ap (λ d. whole wholes (tree d)) c.deref-in-Sel-3.ensures in
    let wide_x = at-width z c.in_ok-x-in-Sel.x wholes (tree c.in-Sel.x.value) x in
    let wide_y = at-width z c.in_ok-y-in-Sel.y wholes (tree c.in-Sel.y.value) y in
    at-width z c.in_ok-c-in-Sel.c wholes (tree c.in-Sel.c.value) condition ∙ formed.1.0

pub sel-requires-clause-same : goal.sel-requires-clause-same
sel-requires-clause-same t c =
    let formed = subst (λ u. WellFormed (tree u)) c.in-Sel.is c.requires.formed in
    let p = c.args.pool.now in
    let q = c.whole_node-in-Sel.new.pool in
    let r = c.whole_node-in-Sel-2.new.pool in
    let z = c.whole_node-in-Sel-3.new.pool in
    let wholes = trees_in p c.args.all.now in
    let behind = keeps-twice q r z c.whole_node-in-Sel-2.ensures.keeps c.whole_node-in-Sel-3.ensures.keeps in
    let front = keeps-twice p q r c.whole_node-in-Sel.ensures.keeps c.whole_node-in-Sel-2.ensures.keeps in
    let condition : tree_at z c.in_ok-c-in-Sel.c ≡ whole wholes (tree c.in-Sel.c.value) =
    node-kept q z c.in_ok-c-in-Sel.c (whole wholes (tree c.deref-in-Sel.result.now)) behind
    c.in_ok-c-in-Sel.ensures.node ∙ ap (λ d. whole wholes (tree d)) c.deref-in-Sel.ensures in
    let x : tree_at z c.in_ok-x-in-Sel.x ≡ whole wholes (tree c.in-Sel.x.value) =
    c.whole_node-in-Sel-3.ensures.keeps.trees c.in_ok-x-in-Sel.x c.in_ok-x-in-Sel.ensures.node.within
    ∙ later p q r c.args.all.now c.in_ok-x-in-Sel.x (tree c.deref-in-Sel-2.result.now) c.requires.wholes
    c.whole_node-in-Sel.ensures.keeps c.in_ok-x-in-Sel.ensures.node
    ∙ ap (λ d. whole wholes (tree d)) c.deref-in-Sel-2.ensures in
    let y : tree_at z c.in_ok-y-in-Sel.y ≡ whole wholes (tree c.in-Sel.y.value) =
    later p r z c.args.all.now c.in_ok-y-in-Sel.y (tree c.deref-in-Sel-3.result.now) c.requires.wholes front
    c.in_ok-y-in-Sel.ensures.node ∙ ap (λ d. whole wholes (tree d)) c.deref-in-Sel-3.ensures in
    let wide_x = at-width z c.in_ok-x-in-Sel.x wholes (tree c.in-Sel.x.value) x in
    let wide_y = at-width z c.in_ok-y-in-Sel.y wholes (tree c.in-Sel.y.value) y in
    wide_y ∙ formed.1.2 ∙ sym (wide_x ∙ formed.1.1)

pub returns-in_ok-y-in-Sel-clause-node : goal.returns-in_ok-y-in-Sel-clause-node
returns-in_ok-y-in-Sel-clause-node t c =
    let formed = subst (λ u. WellFormed (tree u)) c.in-Sel.is c.requires.formed in
    let p = c.args.pool.now in
    let q = c.whole_node-in-Sel.new.pool in
    let r = c.whole_node-in-Sel-2.new.pool in
    let z = c.whole_node-in-Sel-3.new.pool in
    let wholes = trees_in p c.args.all.now in
    let behind = keeps-twice q r z c.whole_node-in-Sel-2.ensures.keeps c.whole_node-in-Sel-3.ensures.keeps in
    let front = keeps-twice p q r c.whole_node-in-Sel.ensures.keeps c.whole_node-in-Sel-2.ensures.keeps in
    let condition : tree_at z c.in_ok-c-in-Sel.c ≡ whole wholes (tree c.in-Sel.c.value) =
    node-kept q z c.in_ok-c-in-Sel.c (whole wholes (tree c.deref-in-Sel.result.now)) behind
    c.in_ok-c-in-Sel.ensures.node ∙ ap (λ d. whole wholes (tree d)) c.deref-in-Sel.ensures in
    let x : tree_at z c.in_ok-x-in-Sel.x ≡ whole wholes (tree c.in-Sel.x.value) =
    c.whole_node-in-Sel-3.ensures.keeps.trees c.in_ok-x-in-Sel.x c.in_ok-x-in-Sel.ensures.node.within
    ∙ later p q r c.args.all.now c.in_ok-x-in-Sel.x (tree c.deref-in-Sel-2.result.now) c.requires.wholes
    c.whole_node-in-Sel.ensures.keeps c.in_ok-x-in-Sel.ensures.node
    ∙ ap (λ d. whole wholes (tree d)) c.deref-in-Sel-2.ensures in
    let y : tree_at z c.in_ok-y-in-Sel.y ≡ whole wholes (tree c.in-Sel.y.value) =
    later p r z c.args.all.now c.in_ok-y-in-Sel.y (tree c.deref-in-Sel-3.result.now) c.requires.wholes front
    c.in_ok-y-in-Sel.ensures.node ∙ ap (λ d. whole wholes (tree d)) c.deref-in-Sel-3.ensures in
    let wide_x = at-width z c.in_ok-x-in-Sel.x wholes (tree c.in-Sel.x.value) x in
    let wide_y = at-width z c.in_ok-y-in-Sel.y wholes (tree c.in-Sel.y.value) y in
    subst (λ u. IfOk c.sel.result (λ n. StandsFor c.sel.new.self n (whole wholes (tree u)))) (sym c.in-Sel.is)
    (subst (λ b. IfOk c.sel.result (λ n. StandsFor c.sel.new.self n b))
    (λ i. sel ((wide_x ∙ formed.1.1) i) (condition i) (x i) (y i)) c.sel.ensures.node)
