use Rattle.std.proofs.lemmas.Result.{IfOk-weaker}
use Rattle.vg_library.specs.Kept.{entries_kept, set_kept}
use Rattle.vg_top.proofs.kept.program_text.Goals as goal

pub returns : goal.returns
returns c =
    let l = c.args.library.now in
    let is = c.in_ok-program.ensures (entries_kept l) (set_kept l) c.descriptions-descriptions.ensures.described in
    IfOk-weaker c.print_program.result _ _
    (λ bytes spelt. record { program = c.in_ok-program.program; text = spelt; compiled = is })
    c.print_program.ensures
