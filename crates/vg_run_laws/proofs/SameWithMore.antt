-- What `check` calls the same is the same with more.
use Rattle.std.proofs.Common.{◌≡◌, ◌∙◌, ℕ, true, false, List, Option, Some, None, Result, Ok, Err, refl, sym, ap, subst}
use Rattle.vg_base.specs.Bind.{◌>>=◌}
use Rattle.vg_outside.specs.Shelf.{Held}
use Rattle.vg_catalog.specs.Called.{headers_of}
use Rattle.vg_catalog.specs.Entries.{Entry}
use Rattle.vg_catalog.specs.Files.{file_of as entries_of}
use Rattle.vg_check.specs.Compared.{told_difference}
use Rattle.vg_check.specs.Laws.{SameIsToldWithMore}
use Rattle.vg_kernel.specs.Tree.{Tree}
use Rattle.vg_program.specs.declared.program.Program.{Program}
use Rattle.vg_program.specs.Faults.{read}
use Rattle.vg_request.specs.Request.{Asked}
use Rattle.vg_top.specs.declared.ending.Ending.{Ending}
use Rattle.vg_top.specs.Answer.{pair}
use Rattle.vg_top.specs.Check.{checked, compared, same_unless}
use Rattle.vg_top.specs.Files.{first_file, second_file, third_file, instructions_limit, kernel_limit, program_limit, file_of}
use Rattle.vg_top.specs.InstructionFile.{entries_or_refusal}
use Rattle.vg_top.specs.KernelFile.{kernel_alone, kernel_or_refusal}
use Rattle.vg_top.specs.Outcome.{Outcome}
use Rattle.vg_top.specs.ProgramFile.{program_or_refusal}
use Rattle.vg_top.specs.Verdict.{asked_outcome, IsAnswered}
use Rattle.vg_run_laws.specs.SameWithMore.{SameWithMore}

-- what stands behind a step gives the same where its answer is one
behind : {A : Type 0} (r : Result A Ending) (f g : A → Result Outcome Ending) (bytes : List ℕ)
    → IsAnswered (r >>= f) bytes
    → ((a : A) → IsAnswered (f a) bytes → g a ≡ f a) → (r >>= g) ≡ (r >>= f)
behind (Ok a) f g bytes answered same = same a answered
behind (Err e) f g bytes answered same = refl

compared-more : SameIsToldWithMore → (entries : List Entry) (k : Tree) (p : Program) (bytes : List ℕ)
    → IsAnswered (compared entries k p false) bytes
    → compared entries k p true ≡ compared entries k p false
compared-more law entries k p bytes answered = by (told_difference entries k p false) refl
  where
    by : (told : Option (List ℕ)) → told_difference entries k p false ≡ told
        → compared entries k p true ≡ compared entries k p false
    by None none = ap (same_unless (pair entries k p)) (law entries k p none ∙ sym none)
    by (Some text) some = absurd (subst (λ d. IsAnswered (same_unless (pair entries k p) d) bytes) some answered)

checked-more : SameIsToldWithMore → (held : Held) (instructions kernel program bytes : List ℕ)
    → IsAnswered (checked held instructions kernel program false) bytes
    → checked held instructions kernel program true ≡ checked held instructions kernel program false
checked-more law held instructions kernel program bytes answered =
    behind (file_of held first_file instructions instructions_limit) _ _ bytes answered (λ file a.
    behind (entries_or_refusal first_file (entries_of file)) _ _ bytes a (λ entries b.
    behind (file_of held second_file kernel kernel_limit) _ _ bytes b (λ text d.
    behind (kernel_or_refusal second_file (kernel_alone text)) _ _ bytes d (λ k e.
    behind (file_of held third_file program program_limit) _ _ bytes e (λ body f.
    behind (program_or_refusal third_file (read (headers_of entries) body)) _ _ bytes f (λ p g.
    compared-more law entries k p bytes g))))))

pub same-with-more : SameIsToldWithMore → SameWithMore
same-with-more law held words wider instructions kernel program bytes asked more answered =
    ap (asked_outcome held) more
    ∙ checked-more law held instructions kernel program bytes
    (subst (λ (a : Option Asked). IsAnswered (asked_outcome held a) bytes) asked answered)
    ∙ sym (ap (asked_outcome held) asked)
