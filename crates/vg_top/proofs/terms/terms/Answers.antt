use Rattle.std.proofs.Common.{arith, refl}
use Rattle.std.proofs.lemmas.Result.{err_from_is_err_and}
use Rattle.vg_top.specs.Files.{first_file}
use Rattle.vg_top.proofs.Works.{begins, kernel_last, reads_on, stops_at}
use Rattle.vg_top.proofs.terms.terms.Goals as goal

pub returns-in_err-text-clause-shelf : goal.returns-in_err-text-clause-shelf
returns-in_err-text-clause-shelf g c =
    let s = g.S.Shelf in
    let same = err_from_is_err_and c.from_residual.result c.from_residual.ensures.1 in
    rw (same.1, same.2) (stops_at s _ 0 first_file _ _ _ _ refl (omega arith) (omega arith) (begins s c.args.shelf.now) c.in_err-text.ensures.shelf)

pub returns-clause-shelf : goal.returns-clause-shelf
returns-clause-shelf g c =
    let s = g.S.Shelf in
    let one = reads_on s 0 first_file _ _ _ (omega arith) (begins s c.args.shelf.now) c.in_ok-text.ensures.shelf in
    kernel_last s _ first_file _ _ _ (omega arith) refl refl one c.values_of_text.ensures.refusal
