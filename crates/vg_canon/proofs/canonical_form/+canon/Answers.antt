use Rattle.std.proofs.Common.{◌≤◌, sym, ◌∙◌, ap, subst, arith}
use Rattle.std.proofs.lemmas.Result.{IfOk-weaker, on_ok_weaker}
use Rattle.vg_canon.specs.Canonical.{canonical}
use Rattle.vg_canon.specs.Step.{Stepped}
use Rattle.vg_terms.specs.Measure.{measure}
use Rattle.vg_terms.specs.Term.{tree}
use Rattle.vg_canon.proofs.Steps.{rule-sound}
use Rattle.vg_canon.proofs.Forms.{canonical-children, canonical-rebuilt, canonical-rewritten, canonical-finished, canonical-same, children-measure, rewritten-measure}
use Rattle.vg_canon.proofs.Walks.{walk-ends, child-one, child-first, child-second, child-condition, child-then, child-else}
use Rattle.vg_canon.proofs.Nested.{IsOver, is-over, over-first, closed-same, rest-same}
use Rattle.vg_canon.proofs.canonical_form.+canon.Goals as goal

pub settle_below-settle_root-requires : goal.settle_below-settle_root-requires
settle_below-settle_root-requires t c =
    let e = c.in_ok-over.ensures in
    let r = canonical-rebuilt (tree c.args.t) c.requires.well_formed in
    let m : measure (tree c.in_ok-over.over) ≤ measure (tree c.args.t) = rw e (children-measure (tree c.args.t) c.requires.well_formed) in
    (omega (arith, m, c.decreases), (rw e r.keeps.well_formed, rw e r.children))

pub settle_below-returns : goal.settle_below-returns
settle_below-returns t c =
    IfOk-weaker c.settle_root.result _ _ (λ x e. e ∙ ap canonical c.in_ok-over.ensures ∙ canonical-children (tree c.args.t) c.requires.well_formed) c.settle_root.ensures

pub settle_root-settle-requires : goal.settle_root-settle-requires
settle_root-settle-requires t c =
    let e = subst (Stepped (tree c.args.t)) c.in-Rewritten.is c.in_ok-new.ensures in
    let m = rewritten-measure (tree c.args.t) (tree c.in-Rewritten.new) c.requires.well_formed e.0 in
    (omega (arith, m, c.decreases), ((rule-sound (tree c.args.t) (tree c.in-Rewritten.new) c.requires.well_formed e.0).keeps.well_formed, e.1))

pub settle_root-returns-in-Rewritten : goal.settle_root-returns-in-Rewritten
settle_root-returns-in-Rewritten t c =
    let e = subst (Stepped (tree c.args.t)) c.in-Rewritten.is c.in_ok-new.ensures in
    IfOk-weaker c.settle.result _ _ (λ x f. f ∙ sym (canonical-rewritten (tree c.args.t) (tree c.in-Rewritten.new) c.requires.well_formed c.requires.children e.0)) c.settle.ensures

pub settle_root-returns-in-Finished : goal.settle_root-returns-in-Finished
settle_root-returns-in-Finished t c =
    let e = subst (Stepped (tree c.args.t)) c.in-Finished.is c.in_ok-new.ensures in
    e.1 ∙ sym (canonical-finished (tree c.args.t) c.requires.well_formed c.requires.children e.0)

pub settle-returns-then-ends_at : goal.settle-returns-then-ends_at
settle-returns-then-ends_at t c = sym (canonical-same (tree c.args.t) (walk-ends c.args.walk (tree c.args.t) (sym c.ends_at.ensures ∙ c.if-ends_at.true) c.requires.beyond))

pub settle_children-settle_boxed-requires : goal.settle_children-settle_boxed-requires
settle_children-settle_boxed-requires t c =
    let a = c.in-One in
    let k = child-one c.args.walk c.other-other.result (tree c.args.t) a.op a.width a.amount (tree a.x.value) c.other-other.ensures (ap tree a.is) c.requires.well_formed c.requires.beyond in
    (omega (arith, k.below, c.decreases), (k.well_formed, k.beyond))

pub settle_children-settle_boxed-requires-in-Two : goal.settle_children-settle_boxed-requires-in-Two
settle_children-settle_boxed-requires-in-Two t c =
    let a = c.in-Two in
    let k = child-first c.args.walk c.first-first.result (tree c.args.t) a.op a.width (tree a.x.value) (tree a.y.value) c.first-first.ensures (ap tree a.is) c.requires.well_formed c.requires.beyond in
    (omega (arith, k.below, c.decreases), (k.well_formed, k.beyond))

pub settle_children-settle_boxed-requires-in-Two-2 : goal.settle_children-settle_boxed-requires-in-Two-2
settle_children-settle_boxed-requires-in-Two-2 t c =
    let a = c.in-Two in
    let k = child-second c.args.walk c.other-other.result (tree c.args.t) a.op a.width (tree a.x.value) (tree a.y.value) c.other-other.ensures (ap tree a.is) c.requires.well_formed c.requires.beyond in
    (omega (arith, k.below, c.decreases), (k.well_formed, k.beyond))

pub settle_children-settle_boxed-requires-in-Sel : goal.settle_children-settle_boxed-requires-in-Sel
settle_children-settle_boxed-requires-in-Sel t c =
    let a = c.in-Sel in
    let k = child-condition c.args.walk c.other-other.result (tree c.args.t) a.width (tree a.c.value) (tree a.x.value) (tree a.y.value) c.other-other.ensures (ap tree a.is) c.requires.well_formed c.requires.beyond in
    (omega (arith, k.below, c.decreases), (k.well_formed, k.beyond))

pub settle_children-settle_boxed-requires-in-Sel-2 : goal.settle_children-settle_boxed-requires-in-Sel-2
settle_children-settle_boxed-requires-in-Sel-2 t c =
    let a = c.in-Sel in
    let k = child-then c.args.walk c.other-other.result (tree c.args.t) a.width (tree a.c.value) (tree a.x.value) (tree a.y.value) c.other-other.ensures (ap tree a.is) c.requires.well_formed c.requires.beyond in
    (omega (arith, k.below, c.decreases), (k.well_formed, k.beyond))

pub settle_children-settle_boxed-requires-in-Sel-3 : goal.settle_children-settle_boxed-requires-in-Sel-3
settle_children-settle_boxed-requires-in-Sel-3 t c =
    let a = c.in-Sel in
    let k = child-else c.args.walk c.other-other.result (tree c.args.t) a.width (tree a.c.value) (tree a.x.value) (tree a.y.value) c.other-other.ensures (ap tree a.is) c.requires.well_formed c.requires.beyond in
    (omega (arith, k.below, c.decreases), (k.well_formed, k.beyond))

pub settle_first-returns-in-Two : goal.settle_first-returns-in-Two
settle_first-returns-in-Two t c =
    let a = c.in-Two in
    on_ok_weaker c.settle_chain.result (λ e. over-first c.args.op a.op a.width (tree a.x.value) (tree a.y.value) _ (tree c.args.t.now) (ap tree a.is) c.requires.parts (e ∙ ap (λ b. canonical (tree b)) c.deref_mut.ensures.value)) c.settle_chain.ensures

pub settle_chain-returns-then-not-opens : goal.settle_chain-returns-then-not-opens
settle_chain-returns-then-not-opens t c = closed-same c.args.op (tree c.args.t.now) (sym c.opens.ensures ∙ c.if-not-opens.true) c.requires.parts

pub settle_chain-is_at_rest-requires : goal.settle_chain-is_at_rest-requires
settle_chain-is_at_rest-requires t c = (is-over (tree c.args.t.now) (tree c.settle_first.new.t) c.requires.well_formed c.in_ok-settle_first.ensures).well_formed

pub settle_chain-returns-then-is_at_rest : goal.settle_chain-returns-then-is_at_rest
settle_chain-returns-then-is_at_rest t c =
    let o = is-over (tree c.args.t.now) (tree c.settle_first.new.t) c.requires.well_formed c.in_ok-settle_first.ensures in
    rest-same (tree c.args.t.now) (tree c.settle_first.new.t) o (sym c.is_at_rest.ensures ∙ c.if-is_at_rest.true)

pub settle_chain-settle_root-requires : goal.settle_chain-settle_root-requires
settle_chain-settle_root-requires t c =
    let e = ap tree c.replace-over.ensures.value ∙ c.in_ok-settle_first.ensures in
    let o = is-over (tree c.args.t.now) (tree c.replace-over.result) c.requires.well_formed e in
    (omega (arith, o.not_above, c.decreases), (o.well_formed, o.children))

pub settle_chain-returns : goal.settle_chain-returns
settle_chain-returns t c =
    let e = ap tree c.replace-over.ensures.value ∙ c.in_ok-settle_first.ensures in
    let o = is-over (tree c.args.t.now) (tree c.replace-over.result) c.requires.well_formed e in
    c.in_ok-t.ensures ∙ o.same
