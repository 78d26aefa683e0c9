-- What a check answers, step by step.
use Rattle.std.proofs.Common.{◌≡◌, ℕ, Bool, List, Result, Ok, Err, Some, None, refl, subst}
use Rattle.std.specs.Prelude.{Vec}
use Rattle.std.specs.declared.alloc.Global.{Global}
use Rattle.vg_outside.specs.Shelf.{Held}
use Rattle.vg_catalog.specs.declared.catalog.Catalog.{Catalog}
use Rattle.vg_catalog.specs.Called.{called_by, headers_of}
use Rattle.vg_catalog.specs.Catalogs.{entries_in}
use Rattle.vg_catalog.specs.Entries.{Entry}
use Rattle.vg_catalog.specs.Files.{file_of as entries_of}
use Rattle.vg_check.specs.Compared.{told_difference}
use Rattle.vg_compile.specs.Means.{Means}
use Rattle.vg_kernel.specs.declared.kernel.Kernel.{Kernel}
use Rattle.vg_kernel.specs.Tree.{Tree, tree_of}
use Rattle.vg_program.specs.declared.program.Program.{Program}
use Rattle.vg_program.specs.Faults.{read}
use Rattle.vg_top.specs.declared.ending.Ending.{Ending}
use Rattle.vg_top.specs.declared.ending.Ending.TheVariants.{Differs}
use Rattle.vg_top.specs.Answer.{pair, same_text}
use Rattle.vg_top.specs.Check.{checked, compared, same_unless}
use Rattle.vg_top.specs.Files.{first_file, second_file, third_file, instructions_limit, kernel_limit, program_limit, file_of, AreBytes, Tells}
use Rattle.vg_top.specs.InstructionFile.{AreEntries, entries_or_refusal}
use Rattle.vg_top.specs.KernelFile.{IsTree, kernel_alone, kernel_or_refusal}
use Rattle.vg_top.specs.Outcome.{VecAnswers}
use Rattle.vg_top.specs.ProgramFile.{IsPlain, program_or_refusal}
use Rattle.vg_top.proofs.Steps.{refused, step}

-- without a difference the word `same` answers
pub same_told : (entries : List Entry) (k : Tree) (p : Program) (more : Bool) (bytes : Vec ℕ Global) → None ≡ told_difference entries k p more → bytes.items ≡ same_text
    → Means (called_by entries) p k → Tells VecAnswers (Ok bytes) (compared entries k p more)
same_told entries k p more bytes none spelled means =
    subst (λ d. Tells VecAnswers (Ok bytes) (same_unless (pair entries k p) d)) none (record { text = spelled; means = means })

-- the text of a difference is told
pub difference_told : (entries : List Entry) (k : Tree) (p : Program) (more : Bool) (text : List ℕ) → Some text ≡ told_difference entries k p more
    → Tells VecAnswers (Err (Differs text)) (compared entries k p more)
difference_told entries k p more text some =
    subst (λ d. Tells VecAnswers (Err (Differs text)) (same_unless (pair entries k p) d)) some refl

-- after all three files were read and judged
pub checked-told : (held : Held) (instructions kernel program : List ℕ) (more : Bool) (file text body : Vec ℕ Global) (catalog : Catalog) (k : Kernel) (p : Program)
    (result : Result (Vec ℕ Global) Ending)
    → Tells AreBytes (Ok file) (file_of held first_file instructions instructions_limit)
    → Tells AreEntries (Ok catalog) (entries_or_refusal first_file (entries_of file.items))
    → Tells AreBytes (Ok text) (file_of held second_file kernel kernel_limit)
    → Tells IsTree (Ok k) (kernel_or_refusal second_file (kernel_alone text.items))
    → Tells AreBytes (Ok body) (file_of held third_file program program_limit)
    → Tells IsPlain (Ok p) (program_or_refusal third_file (read (headers_of (entries_in catalog)) body.items))
    → Tells VecAnswers result (compared (entries_in catalog) (tree_of k) p more)
    → Tells VecAnswers result (checked held instructions kernel program more)
checked-told held instructions kernel program more file text body catalog k p result a b d e f g r =
    let left = Tells VecAnswers result in
    step AreBytes file (file_of held first_file instructions instructions_limit) _ left a (λ fs fe.
    step AreEntries catalog (entries_or_refusal first_file (entries_of fs)) _ left
    (subst (λ v. Tells AreEntries (Ok catalog) (entries_or_refusal first_file (entries_of v))) fe b) (λ es ee.
    step AreBytes text (file_of held second_file kernel kernel_limit) _ left d (λ ts te.
    step IsTree k (kernel_or_refusal second_file (kernel_alone ts)) _ left
    (subst (λ v. Tells IsTree (Ok k) (kernel_or_refusal second_file (kernel_alone v))) te e) (λ t same.
    step AreBytes body (file_of held third_file program program_limit) _ left f (λ bs be.
    step IsPlain p (program_or_refusal third_file (read (headers_of es) bs)) _ left
    (subst (λ v. Tells IsPlain (Ok p) (program_or_refusal third_file (read (headers_of v) bs))) ee
    (subst (λ v. Tells IsPlain (Ok p) (program_or_refusal third_file (read (headers_of (entries_in catalog)) v))) be g)) (λ q qe.
    subst (λ v. left (compared v t q more)) ee
    (subst (λ v. left (compared (entries_in catalog) v q more)) same
    (subst (λ v. left (compared (entries_in catalog) (tree_of k) v more)) qe r))))))))

-- after the third file was refused
pub refused-told : (held : Held) (instructions kernel program : List ℕ) (more : Bool) (file text body : Vec ℕ Global) (catalog : Catalog) (k : Kernel) (e : Ending)
    → Tells AreBytes (Ok file) (file_of held first_file instructions instructions_limit)
    → Tells AreEntries (Ok catalog) (entries_or_refusal first_file (entries_of file.items))
    → Tells AreBytes (Ok text) (file_of held second_file kernel kernel_limit)
    → Tells IsTree (Ok k) (kernel_or_refusal second_file (kernel_alone text.items))
    → Tells AreBytes (Ok body) (file_of held third_file program program_limit)
    → Tells IsPlain (Err e) (program_or_refusal third_file (read (headers_of (entries_in catalog)) body.items))
    → Tells VecAnswers (Err e) (checked held instructions kernel program more)
refused-told held instructions kernel program more file text body catalog k e a b d f g r =
    let left = Tells VecAnswers (Err e) in
    step AreBytes file (file_of held first_file instructions instructions_limit) _ left a (λ fs fe.
    step AreEntries catalog (entries_or_refusal first_file (entries_of fs)) _ left
    (subst (λ v. Tells AreEntries (Ok catalog) (entries_or_refusal first_file (entries_of v))) fe b) (λ es ee.
    step AreBytes text (file_of held second_file kernel kernel_limit) _ left d (λ ts te.
    step IsTree k (kernel_or_refusal second_file (kernel_alone ts)) _ left
    (subst (λ v. Tells IsTree (Ok k) (kernel_or_refusal second_file (kernel_alone v))) te f) (λ t same.
    step AreBytes body (file_of held third_file program program_limit) _ left g (λ bs be.
    refused IsPlain VecAnswers e (program_or_refusal third_file (read (headers_of es) bs)) _
    (subst (λ v. Tells IsPlain (Err e) (program_or_refusal third_file (read (headers_of v) bs))) ee
    (subst (λ v. Tells IsPlain (Err e) (program_or_refusal third_file (read (headers_of (entries_in catalog)) v))) be r)))))))
