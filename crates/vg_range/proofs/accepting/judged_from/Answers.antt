use Rattle.std.proofs.Common.{◌+◌, ◌-◌, ◌∙◌, ap, sym, subst, arith}
use Rattle.std.proofs.lemmas.Result.{err_from_is_err_and}
use Rattle.vg_base.specs.Gives.{FailsBy}
use Rattle.vg_interval.specs.Views.{told}
use Rattle.vg_names.specs.Views.{resolved_of}
use Rattle.vg_range.specs.Acceptance.{judged_from}
use Rattle.vg_range.specs.Seen.{state_view}
use Rattle.vg_range.proofs.Immediates.{judged_done, judged_fails, judged_step}
use Rattle.vg_range.proofs.accepting.judged_from.Goals as goal

pub returns-in_err-instance_at : goal.returns-in_err-instance_at
returns-in_err-instance_at c =
    let r = resolved_of c.args.resolved.now in
    let lo = c.args.range.now.lo in
    let count = c.count_of-count.result in
    let fault = told c.in_err-instance_at.field-0.0 in
    let error = err_from_is_err_and c.from_residual.result c.from_residual.ensures.1 in
    rw (error.1, error.2, sym c.count_of-count.ensures) (subst (FailsBy fault) c.immediates.invariant
    (judged_fails r (lo + c.immediates.step) (count - c.immediates.step) fault (omega (arith, c.immediates-test.true)) c.in_err-instance_at.ensures))

pub immediates-preserved : goal.immediates-preserved
immediates-preserved c =
    judged_step (resolved_of c.args.resolved.now) c.args.range.now.lo c.immediates.step c.count_of-count.result
    (state_view c.in_ok-instance_at.field-0.value) c.immediates-test.true c.in_ok-instance_at.ensures
    ∙ c.immediates.invariant

pub returns : goal.returns
returns c =
    let r = resolved_of c.args.resolved.now in
    let lo = c.args.range.now.lo in
    ap (judged_from r lo) (sym c.count_of-count.ensures)
    ∙ sym c.immediates.invariant
    ∙ judged_done r (lo + c.immediates.step) c.immediates.step c.count_of-count.result (omega (arith, c.immediates-test.false))
