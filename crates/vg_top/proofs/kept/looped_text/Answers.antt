use Rattle.std.proofs.lemmas.Result.{IfOk-weaker}
use Rattle.vg_library.specs.Kept.{entries_kept, set_kept}
use Rattle.vg_top.proofs.kept.looped_text.Goals as goal

-- what is compiled has few steps
pub print_looped-requires : goal.print_looped-requires
print_looped-requires c =
    let l = c.args.library.now in
    (c.in_ok-looped.ensures (entries_kept l) (set_kept l) c.descriptions-descriptions.ensures.described).few_steps

pub returns : goal.returns
returns c =
    let l = c.args.library.now in
    let is = c.in_ok-looped.ensures (entries_kept l) (set_kept l) c.descriptions-descriptions.ensures.described in
    IfOk-weaker c.print_looped.result _ _
    (λ bytes spelt. record { looped = c.in_ok-looped.looped; text = spelt; compiled = is })
    c.print_looped.ensures
