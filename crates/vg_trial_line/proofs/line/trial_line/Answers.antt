use Rattle.std.proofs.Common.{◌≡◌, ◌%◌, ◌^◌, length, sum, sym, ◌∙◌, ap}
use Rattle.std.proofs.lemmas.List.{length-map}
use Rattle.std.proofs.lemmas.Result.{IfOk-weaker}
use Rattle.vg_catalog.specs.Catalogs.{entries_in}
use Rattle.vg_catalog.specs.Extensions.{bits_in}
use Rattle.vg_kernel.specs.Tree.{statement_of, tree_of}
use Rattle.vg_trial_line.proofs.Trials.{told}
use Rattle.vg_trial_line.proofs.line.trial_line.Goals as goal

pub returns : goal.returns
returns c =
    let k = tree_of c.in_ok-kernel.kernel in
    let left = c.in_ok-left.left.items in
    let counted : length c.as_slice-3.result.now ≡ length k.statements = ap length c.as_slice-3.ensures ∙ sym (length-map c.in_ok-kernel.kernel.statements statement_of) in
    let summed : c.sum_of.result ≡ sum left % 2 ^ 32 = c.sum_of.ensures ∙ ap (λ bytes. sum bytes % 2 ^ 32) c.as_slice-4.ensures.value in
    IfOk-weaker c.print_line.result _ _
    (λ bytes line. told (entries_in c.args.catalog.now) c.args.number (bits_in c.every-every.result) k c.in_ok-program.program left bytes.items
    (length c.as_slice-3.result.now) c.scalar_cost.result c.sum_of.result c.in_ok-kernel.ensures.spelled c.in_ok-kernel.ensures.known c.every-every.ensures c.in_ok-program.ensures
    c.in_ok-left.ensures.by_kernel c.in_ok-left.ensures.by_program counted c.scalar_cost.ensures summed line)
    c.print_line.ensures
