use Rattle.std.proofs.Common.{sym, ◌∙◌}
use Rattle.std.proofs.lemmas.Result.{IfOk-weaker}
use Rattle.vg_catalog.specs.Catalogs.{entries_in}
use Rattle.vg_known.specs.WiderDifference.{equality}
use Rattle.vg_verify.proofs.Verdicts.{other_heads, same_heads}
use Rattle.vg_verify.proofs.comparison.first_difference.Goals as goal

pub returns-then-same_head : goal.returns-then-same_head
returns-then-same_head c =
    IfOk-weaker c.inner_difference.result _ _
    (λ found e. e ∙ same_heads (equality c.args.more) (entries_in c.args.catalog.now) c.args.ssa.now c.args.program.now
    (sym c.same_head.ensures ∙ c.if-same_head.true))
    c.inner_difference.ensures

pub returns-else-same_head : goal.returns-else-same_head
returns-else-same_head c =
    other_heads (equality c.args.more) (entries_in c.args.catalog.now) c.args.ssa.now c.args.program.now
    (sym c.same_head.ensures ∙ c.if-same_head.false)
