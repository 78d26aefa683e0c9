use Rattle.std.proofs.Common.{ap, ◌∙◌}
use Rattle.std.specs.Prelude.{◌-ℤ◌}
use Rattle.vg_spans.specs.Span.{readable}
use Rattle.vg_spans.proofs.Saturated.{saturated-ends}
use Rattle.vg_spans.proofs.operations.differences.Goals as goal

pub returns : goal.returns
returns c =
    c.readable.ensures ∙ ap (readable c.args.width) c.differences_of_ends.ensures
    ∙ saturated-ends (λ a b. a -ℤ b) c.args.width c.requires.least c.requires.most c.args.x c.args.y
