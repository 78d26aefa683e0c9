use Rattle.std.proofs.Common.{◌≡◌, rules}
use Rattle.std.proofs.lemmas.Result.{err_from_is_err_and}
use Rattle.vg_interval.specs.Views.{count_view, found_view, told}
use Rattle.vg_script.specs.Views.{number_of}
use Rattle.vg_range.specs.Seen.{sight_view}
use Rattle.vg_range.proofs.Folded.{slice_fails}
use Rattle.vg_range.proofs.estimating.slice_at_numbers.Goals as goal

pub returns-in_err-kept : goal.returns-in_err-kept
returns-in_err-kept c =
    let high : number_of c.whole.result ≡ c.args.high = search rules in
    let low : number_of c.whole-2.result ≡ c.args.low = search rules in
    let error = err_from_is_err_and c.from_residual-in_err-kept.result c.from_residual-in_err-kept.ensures.1 in
    rw (error.1, error.2) (slice_fails (sight_view c.args.context.now) c.args.spot.now c.args.is_signed c.args.register c.args.spread.now
    (number_of c.whole.result) (number_of c.whole-2.result) c.args.high c.args.low
    (count_view c.args.count) (count_view c.in_ok-found.count) (found_view c.in_ok-found.found) (told c.in_err-kept.field-0.0)
    high low c.in_ok-found.ensures c.in_err-kept.ensures)
