use Rattle.std.proofs.Common.{◌∙◌, ◌++◌, refl, ap, map}
use Rattle.vg_kernel.specs.Tree.{tree_of}
use Rattle.vg_shapes.specs.Description.{description_of}
use Rattle.vg_compile.specs.Planned.{plan_seen, rewriting_line}
use Rattle.vg_compile.proofs.Whole.{explained-by}
use Rattle.vg_compile.proofs.explaining.explain_cheapest.Goals as goal

pub returns : goal.returns
returns c =
    let more = c.in_ok-more.more in
    let ds = map description_of c.args.descriptions.now in
    let text = c.in_ok-extend_from_slice.ensures.items
    ∙ ap (λ l. l ++ c.as_slice.result.now) c.in_ok-put_rewriting.ensures
    ∙ ap (λ l. (l ++ rewriting_line more.best.rewriting) ++ c.as_slice.result.now) c.new-text.ensures.items
    ∙ ap (λ l. rewriting_line more.best.rewriting ++ l) (c.as_slice.ensures.value ∙ c.in_ok-lines.ensures) in
    λ entries set described. explained-by entries set (tree_of c.args.kernel.now) c.args.width _ ds ds
    more.best.rewriting (plan_seen more.best.values) more.best.values.planned.cost more.plain c.extend_from_slice.new.self.items refl described.all
    c.in_ok-more.ensures.planned text
