use Rattle.std.proofs.Common.{arith, refl, sym}
use Rattle.std.proofs.lemmas.Result.{err_from_is_err_and}
use Rattle.vg_request.specs.Options.{choices_seen}
use Rattle.vg_top.specs.Files.{first_file, second_file}
use Rattle.vg_top.proofs.Answers.{instructions-read, kernel-read, two-files}
use Rattle.vg_top.proofs.Works.{begins, reads_on, stops_at, stops_instructions, kernel_last}
use Rattle.vg_top.proofs.on_kernel.on_kernel.Goals as goal

pub returns-in_err-file-clause-shelf : goal.returns-in_err-file-clause-shelf
returns-in_err-file-clause-shelf g c =
    let s = g.S.Shelf in
    let two = two-files c.args.task c.args.instructions.now c.args.kernel.now (choices_seen c.args.options) in
    let same = err_from_is_err_and c.from_residual.result c.from_residual.ensures.1 in
    rw (same.1, same.2) (stops_at s _ 0 first_file _ _ _ _ refl (omega arith) (omega (arith, two)) (begins s c.args.shelf.now) c.in_err-file.ensures.shelf)

pub returns-in_err-text-clause-shelf : goal.returns-in_err-text-clause-shelf
returns-in_err-text-clause-shelf g c =
    let s = g.S.Shelf in
    let two = two-files c.args.task c.args.instructions.now c.args.kernel.now (choices_seen c.args.options) in
    let same = err_from_is_err_and c.from_residual-in_err-text.result c.from_residual-in_err-text.ensures.1 in
    let one = reads_on s 0 first_file _ _ _ (omega arith) (begins s c.args.shelf.now) c.in_ok-file.ensures.shelf in
    rw (same.1, same.2) (stops_at s _ 1 second_file _ _ _ _ refl (omega arith) (omega (arith, two)) one c.in_err-text.ensures.shelf)

pub returns-clause-shelf : goal.returns-clause-shelf
returns-clause-shelf g c =
    let s = g.S.Shelf in
    let two = two-files c.args.task c.args.instructions.now c.args.kernel.now (choices_seen c.args.options) in
    let reads = kernel-read c.args.task c.args.instructions.now c.args.kernel.now (choices_seen c.args.options) in
    let one = reads_on s 0 first_file _ _ _ (omega arith) (begins s c.args.shelf.now) c.in_ok-file.ensures.shelf in
    let both = reads_on s 1 second_file _ _ _ (omega arith) one c.in_ok-text.ensures.shelf in
    kernel_last s _ second_file _ _ _ (omega arith) (sym two) reads both c.text_of.ensures.refusal

pub returns-in_err-catalog-clause-shelf : goal.returns-in_err-catalog-clause-shelf
returns-in_err-catalog-clause-shelf g c =
    let s = g.S.Shelf in
    let two = two-files c.args.task c.args.instructions.now c.args.kernel.now (choices_seen c.args.options) in
    let reads = instructions-read c.args.task c.args.instructions.now c.args.kernel.now (choices_seen c.args.options) in
    let same = err_from_is_err_and c.from_residual-in_err-catalog.result c.from_residual-in_err-catalog.ensures.1 in
    let one = reads_on s 0 first_file _ _ _ (omega arith) (begins s c.args.shelf.now) c.in_ok-file.ensures.shelf in
    rw (same.1, same.2) (stops_instructions s _ first_file _ _ _ (omega arith) (omega (arith, two)) reads one c.in_err-catalog.ensures.refusal)
