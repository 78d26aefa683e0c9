use Rattle.std.proofs.Common.{rules, ◌≡◌, ◌∙◌, true}
use Rattle.vg_request.specs.Readable.{are_options}
use Rattle.vg_request.proofs.Asked.{found_is_asked}
use Rattle.vg_request.proofs.reading.on_kernel.Goals as goal

pub returns-clause-asked : goal.returns-clause-asked
returns-clause-asked c =
    let some : are_options c.args.guard_free c.args.words.now ≡ true = search rules in
    let guard = c.get_flag-guard.ensures in
    let more = c.get_flag-more.ensures in
    c.kernel_found.ensures
    ∙ found_is_asked c.args.guard_free c.get_flag-guard.result c.get_flag-more.result c.args.words.now c.in_ok-matches.matches some c.in_ok-matches.ensures
    (guard.value, guard.other) (more.value, more.other)
