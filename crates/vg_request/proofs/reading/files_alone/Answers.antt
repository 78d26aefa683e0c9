use Rattle.std.proofs.Common.{rules, ◌≡◌, ◌∙◌, true, false}
use Rattle.vg_request.specs.Readable.{are_options}
use Rattle.vg_request.proofs.Alone.{found_is_alone}
use Rattle.vg_request.proofs.reading.files_alone.Goals as goal

pub returns-clause-asked : goal.returns-clause-asked
returns-clause-asked c =
    let some : are_options false c.args.words.now ≡ true = search rules in
    let more = c.get_flag-more.ensures in
    c.alone_found.ensures
    ∙ found_is_alone c.get_flag-more.result c.args.words.now c.in_ok-matches.matches some c.in_ok-matches.ensures
    (more.value, more.other)
