use Rattle.std.proofs.Common.{ap, ◌∙◌, rules}
use Rattle.std.proofs.lemmas.Int.{to_z-of_z}
use Rattle.std.specs.Prelude.{ℤ, ◌+ℤ◌}
use Rattle.std.specs.Int.{saturate_to_bits}
use mir.Syntax.{w128}
use mir.Val.{SFits}
use Rattle.vg_spans.specs.Span.{hull, with_ends}
use Rattle.vg_spans.proofs.operations.sums_of_ends.Goals as goal

pub returns : goal.returns
returns c =
    let f : ℤ → ℤ → ℤ = λ a b. saturate_to_bits 127 (a +ℤ b) in
    let low : SFits w128 c.args.x.low = search rules in
    let high : SFits w128 c.args.x.high = search rules in
    c.hull.ensures
    ∙ (λ i. hull
    ((c.sums_with.ensures ∙ ap (λ z. with_ends f z c.args.y) (to_z-of_z w128 c.args.x.low low)) i)
    ((c.sums_with-2.ensures ∙ ap (λ z. with_ends f z c.args.y) (to_z-of_z w128 c.args.x.high high)) i))
