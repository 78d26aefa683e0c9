use Rattle.std.proofs.Common.{arith, refl, subst, Err, Ok, ◌∙◌}
use Rattle.std.proofs.lemmas.Result.{err_from_is_err_and}
use Rattle.vg_catalog.specs.Called.{headers_of}
use Rattle.vg_catalog.specs.Catalogs.{entries_in}
use Rattle.vg_catalog.specs.Files.{file_of as entries_of}
use Rattle.vg_program.specs.Faults.{read}
use Rattle.vg_top.specs.Files.{first_file, second_file, third_file, Tells}
use Rattle.vg_top.specs.InstructionFile.{AreEntries, entries_or_refusal}
use Rattle.vg_top.specs.KernelFile.{IsTree, kernel_alone, kernel_or_refusal}
use Rattle.vg_top.specs.ProgramFile.{IsPlain, program_or_refusal}
use Rattle.vg_top.proofs.Checks.{checked-told, refused-told}
use Rattle.vg_top.proofs.Steps.{some-told}
use Rattle.vg_top.proofs.Works.{begins, reads_on, stops_at, stops_instructions, stops_kernel, stops_program, comparison_last}
use Rattle.vg_top.proofs.check.check.Goals as goal

pub returns-in_err-file-clause-shelf : goal.returns-in_err-file-clause-shelf
returns-in_err-file-clause-shelf g c =
    let s = g.S.Shelf in
    let same = err_from_is_err_and c.from_residual.result c.from_residual.ensures.1 in
    rw (same.1, same.2) (stops_at s _ 0 first_file _ _ _ _ refl (omega arith) (omega arith) (begins s c.args.shelf.now) c.in_err-file.ensures.shelf)

pub returns-in_err-catalog-clause-shelf : goal.returns-in_err-catalog-clause-shelf
returns-in_err-catalog-clause-shelf g c =
    let s = g.S.Shelf in
    let same = err_from_is_err_and c.from_residual-in_err-catalog.result c.from_residual-in_err-catalog.ensures.1 in
    let one = reads_on s 0 first_file _ _ _ (omega arith) (begins s c.args.shelf.now) c.in_ok-file.ensures.shelf in
    rw (same.1, same.2) (stops_instructions s _ first_file _ _ _ (omega arith) (omega arith) refl one c.in_err-catalog.ensures.refusal)

pub returns-in_err-text-clause-shelf : goal.returns-in_err-text-clause-shelf
returns-in_err-text-clause-shelf g c =
    let s = g.S.Shelf in
    let same = err_from_is_err_and c.from_residual-in_err-text.result c.from_residual-in_err-text.ensures.1 in
    let one = reads_on s 0 first_file _ _ _ (omega arith) (begins s c.args.shelf.now) c.in_ok-file.ensures.shelf in
    rw (same.1, same.2) (stops_at s _ 1 second_file _ _ _ _ refl (omega arith) (omega arith) one c.in_err-text.ensures.shelf)

pub returns-in_err-kernel-clause-shelf : goal.returns-in_err-kernel-clause-shelf
returns-in_err-kernel-clause-shelf g c =
    let s = g.S.Shelf in
    let same = err_from_is_err_and c.from_residual-in_err-kernel.result c.from_residual-in_err-kernel.ensures.1 in
    let one = reads_on s 0 first_file _ _ _ (omega arith) (begins s c.args.shelf.now) c.in_ok-file.ensures.shelf in
    let two = reads_on s 1 second_file _ _ _ (omega arith) one c.in_ok-text.ensures.shelf in
    rw (same.1, same.2) (stops_kernel s _ second_file _ _ _ (omega arith) (omega arith) refl two c.in_err-kernel.ensures.refusal)

pub returns-in_err-body-clause-shelf : goal.returns-in_err-body-clause-shelf
returns-in_err-body-clause-shelf g c =
    let s = g.S.Shelf in
    let same = err_from_is_err_and c.from_residual-in_err-body.result c.from_residual-in_err-body.ensures.1 in
    let one = reads_on s 0 first_file _ _ _ (omega arith) (begins s c.args.shelf.now) c.in_ok-file.ensures.shelf in
    let two = reads_on s 1 second_file _ _ _ (omega arith) one c.in_ok-text.ensures.shelf in
    rw (same.1, same.2) (stops_at s _ 2 third_file _ _ _ _ refl (omega arith) (omega arith) two c.in_err-body.ensures.shelf)

pub returns-in_err-program-clause-shelf : goal.returns-in_err-program-clause-shelf
returns-in_err-program-clause-shelf g c =
    let s = g.S.Shelf in
    let same = err_from_is_err_and c.from_residual-in_err-program.result c.from_residual-in_err-program.ensures.1 in
    let one = reads_on s 0 first_file _ _ _ (omega arith) (begins s c.args.shelf.now) c.in_ok-file.ensures.shelf in
    let two = reads_on s 1 second_file _ _ _ (omega arith) one c.in_ok-text.ensures.shelf in
    let three = reads_on s 2 third_file _ _ _ (omega arith) two c.in_ok-body.ensures.shelf in
    rw (same.1, same.2) (stops_program s _ third_file _ _ _ (omega arith) (omega arith) refl three c.in_err-program.ensures.refusal)

pub returns-clause-shelf : goal.returns-clause-shelf
returns-clause-shelf g c =
    let s = g.S.Shelf in
    let one = reads_on s 0 first_file _ _ _ (omega arith) (begins s c.args.shelf.now) c.in_ok-file.ensures.shelf in
    let two = reads_on s 1 second_file _ _ _ (omega arith) one c.in_ok-text.ensures.shelf in
    let three = reads_on s 2 third_file _ _ _ (omega arith) two c.in_ok-body.ensures.shelf in
    comparison_last s _ _ _ _ refl three c.compared.ensures.refusal

pub returns-in_err-program-clause-told : goal.returns-in_err-program-clause-told
returns-in_err-program-clause-told g c =
    let s = g.S.Shelf in
    let same = err_from_is_err_and c.from_residual-in_err-program.result c.from_residual-in_err-program.ensures.1 in
    let first = c.in_ok-file.ensures.shelf.keeps in
    let file = c.in_ok-file.file in
    let text = c.in_ok-text.text in
    let body = c.in_ok-body.body in
    let catalog = c.in_ok-catalog.catalog in
    let kernel = c.in_ok-kernel.kernel in
    let entries = subst (λ v. Tells AreEntries (Ok catalog) (entries_or_refusal first_file (entries_of v))) c.as_slice.ensures.value c.in_ok-catalog.ensures.told in
    let formed = subst (λ v. Tells IsTree (Ok kernel) (kernel_or_refusal second_file (kernel_alone v))) c.as_slice-2.ensures.value c.in_ok-kernel.ensures.told in
    let judged = subst (λ v. Tells IsPlain (Err c.in_err-program.field-0.0) (program_or_refusal third_file (read (headers_of (entries_in catalog)) v))) c.as_slice-3.ensures.value
    (subst (λ v. Tells IsPlain (Err c.in_err-program.field-0.0) (program_or_refusal third_file (read v c.as_slice-3.result.now))) c.headers.ensures.headers c.in_err-program.ensures.told) in
    rw (same.1, same.2) (some-told (s.holds c.args.shelf.now) _ _ _ _ _ _ first (c.in_ok-text.ensures.shelf.keeps ∙ first) c.in_ok-file.ensures.told c.in_ok-text.ensures.told c.in_ok-body.ensures.told
    (λ held a b d. refused-told held c.args.instructions.now c.args.kernel.now c.args.program.now c.args.more file text body catalog kernel c.in_err-program.field-0.0 a entries b formed d judged))

pub returns-clause-told : goal.returns-clause-told
returns-clause-told g c =
    let s = g.S.Shelf in
    let first = c.in_ok-file.ensures.shelf.keeps in
    let file = c.in_ok-file.file in
    let text = c.in_ok-text.text in
    let body = c.in_ok-body.body in
    let catalog = c.in_ok-catalog.catalog in
    let kernel = c.in_ok-kernel.kernel in
    let program = c.in_ok-program.program in
    let entries = subst (λ v. Tells AreEntries (Ok catalog) (entries_or_refusal first_file (entries_of v))) c.as_slice.ensures.value c.in_ok-catalog.ensures.told in
    let formed = subst (λ v. Tells IsTree (Ok kernel) (kernel_or_refusal second_file (kernel_alone v))) c.as_slice-2.ensures.value c.in_ok-kernel.ensures.told in
    let judged = subst (λ v. Tells IsPlain (Ok program) (program_or_refusal third_file (read (headers_of (entries_in catalog)) v))) c.as_slice-3.ensures.value
    (subst (λ v. Tells IsPlain (Ok program) (program_or_refusal third_file (read v c.as_slice-3.result.now))) c.headers.ensures.headers c.in_ok-program.ensures.told) in
    some-told (s.holds c.args.shelf.now) _ _ _ _ _ _ first (c.in_ok-text.ensures.shelf.keeps ∙ first) c.in_ok-file.ensures.told c.in_ok-text.ensures.told c.in_ok-body.ensures.told
    (λ held a b d. checked-told held c.args.instructions.now c.args.kernel.now c.args.program.now c.args.more file text body catalog kernel program c.compared.result a entries b formed d judged c.compared.ensures.told)
