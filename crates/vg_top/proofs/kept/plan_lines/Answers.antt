use Rattle.std.proofs.lemmas.Result.{IfOk-weaker}
use Rattle.vg_library.specs.Kept.{entries_kept, set_kept}
use Rattle.vg_top.proofs.kept.plan_lines.Goals as goal

pub returns : goal.returns
returns c =
    let l = c.args.library.now in
    IfOk-weaker c.explain_described.result _ _
    (λ text told. told (entries_kept l) (set_kept l) c.descriptions-descriptions.ensures.described)
    c.explain_described.ensures
