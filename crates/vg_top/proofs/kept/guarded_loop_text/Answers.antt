use Rattle.std.proofs.lemmas.Result.{IfOk-weaker}
use Rattle.vg_library.specs.Kept.{entries_kept, set_kept}
use Rattle.vg_top.proofs.kept.guarded_loop_text.Goals as goal

-- what is compiled has few steps
pub print_guarded_loop-requires : goal.print_guarded_loop-requires
print_guarded_loop-requires c =
    let l = c.args.library.now in
    (c.in_ok-guarded.ensures (entries_kept l) (set_kept l) c.descriptions-descriptions.ensures.described).few_steps

pub returns : goal.returns
returns c =
    let l = c.args.library.now in
    let is = c.in_ok-guarded.ensures (entries_kept l) (set_kept l) c.descriptions-descriptions.ensures.described in
    IfOk-weaker c.print_guarded_loop.result _ _
    (λ bytes spelt. record { guarded = c.in_ok-guarded.guarded; text = spelt; compiled = is })
    c.print_guarded_loop.ensures
