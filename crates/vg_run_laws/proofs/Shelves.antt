-- The same on a shelf.
use Rattle.std.proofs.Common.{◌≡◌, ℕ, ◌≤◌, Bool, true, false, cond, List, length, Option, Some, None, Result, Ok, Err, refl, sym, ap, subst, ◌∙◌}
use Rattle.std.specs.Prelude.{nat_le}
use Rattle.std.specs.FinMap.{get}
use Rattle.std.proofs.lemmas.Bool.{le-leb}
use Rattle.vg_base.specs.Bind.{◌>>=◌}
use Rattle.vg_base.proofs.Bind.{bind_ok}
use Rattle.vg_outside.specs.Shelf.{Held}
use Rattle.vg_catalog.specs.Called.{headers_of}
use Rattle.vg_catalog.specs.Entries.{Entry}
use Rattle.vg_catalog.specs.Files.{file_of as entries_of}
use Rattle.vg_kernel.specs.declared.fault.KernelFault.{KernelFault}
use Rattle.vg_kernel.specs.declared.fault.KernelFault.TheVariants.{LoopHere}
use Rattle.vg_kernel.specs.Statements.{kernel_of}
use Rattle.vg_kernel.specs.Tree.{Tree}
use Rattle.vg_loops.specs.Reader.{loop_from, loop_place}
use Rattle.vg_text.specs.declared.place.Place.{Place}
use Rattle.vg_request.specs.Binding.{Binding}
use Rattle.vg_request.specs.Options.{Choices}
use Rattle.vg_request.specs.Request.{compile, run, eval}
use Rattle.vg_top.specs.declared.ending.FileNumber.{FileNumber}
use Rattle.vg_top.specs.declared.ending.Ending.{Ending}
use Rattle.vg_top.specs.declared.ending.Ending.TheVariants.{TooLarge}
use Rattle.vg_top.specs.declared.task.Task.TheVariants.{Program, Guarded}
use Rattle.vg_top.specs.Answer.{source, loop_source}
use Rattle.vg_top.specs.Eval.{evaluated, evaluated_on}
use Rattle.vg_top.specs.Files.{first_file, second_file, third_file, instructions_limit, kernel_limit, program_limit, memory_limit, judged, file_of}
use Rattle.vg_top.specs.InstructionFile.{entries_or_refusal}
use Rattle.vg_top.specs.KernelFile.{KernelFile, plain, counted, file_by, kernel_file, alone_by, kernel_alone, guardable, kernel_or_refusal}
use Rattle.vg_top.specs.OnKernel.{compiled_of, guarded_of, told_of}
use Rattle.vg_top.specs.Outcome.{Outcome, memory_left, IsAnswer}
use Rattle.vg_top.specs.ProgramFile.{program_file, program_or_refusal}
use Rattle.vg_top.specs.Run.{ran, ran_on}
use Rattle.vg_top.specs.Verdict.{IsAnswered, outcome_of}
use Rattle.vg_run_laws.specs.Laws.{run_on, Lie, ApartIn, CompiledTextsRunAsEvaluated}
use Rattle.vg_run_laws.proofs.Runs.{Stands, runs-as, program-stands, guarded-stands, looped-stands, guarded-loop-stands}

-- ---- steps that do not fail

step : {A B E : Type 0} (r : Result A E) (f : A → Result B E) (x : A) → r ≡ Ok x → (r >>= f) ≡ f x
step r f x is = ap (λ q. q >>= f) is

-- a file that lies on another shelf too is not refused there, by whichever number it has
lies-too : (n m : FileNumber) (limit : ℕ) (o q : Option (List ℕ)) (x : List ℕ) → q ≡ o → judged n limit o ≡ Ok x → judged m limit q ≡ Ok x
lies-too n m limit o q x same e = ap (judged m limit) same ∙ any o e
  where
    by : (file : List ℕ) (b : Bool) → cond b (Ok file) (Err (TooLarge n)) ≡ Ok x → (let given : Result (List ℕ) Ending = cond b (Ok file) (Err (TooLarge m)) in given ≡ Ok x)
    by file true e = cc
    by file false e = absurd (cc)

    any : (o : Option (List ℕ)) → judged n limit o ≡ Ok x → judged m limit o ≡ Ok x
    any None e = absurd (cc)
    any (Some file) e = by file (nat_le (length file) limit) e

-- a file that is held and not too large
held-small : (n : FileNumber) (limit : ℕ) (o : Option (List ℕ)) (x : List ℕ) → o ≡ Some x → length x ≤ limit → judged n limit o ≡ Ok x
held-small n limit o x is few = ap (judged n limit) is ∙ rw (le-leb (length x) limit few) refl

-- it is the bytes that are held
held-is : (n : FileNumber) (limit : ℕ) (o : Option (List ℕ)) (x : List ℕ) → judged n limit o ≡ Ok x → o ≡ Some x
held-is n limit None x e = absurd (cc)
held-is n limit (Some file) x e = by (nat_le (length file) limit) e
  where
    by : (b : Bool) → cond b (Ok file) (Err (TooLarge n)) ≡ Ok x → Some file ≡ Some x
    by true e = let same : file ≡ x = cc in ap Some same
    by false e = absurd (cc)

-- ---- kernel files

not-refused : {K : Type 0} (n : FileNumber) (r : Result K KernelFault) (k : K) → kernel_or_refusal n r ≡ Ok k → r ≡ Ok k
not-refused n (Ok j) k e = cc
not-refused n (Err fault) k e = absurd (cc)

accepted : {K : Type 0} (n : FileNumber) (r : Result K KernelFault) (k : K) → r ≡ Ok k → kernel_or_refusal n r ≡ Ok k
accepted n r k e = ap (kernel_or_refusal n) e

alone-is-file : (text : List ℕ) (k : Tree) → kernel_alone text ≡ Ok k → kernel_file text ≡ Ok (plain k)
unfolding kernel_alone kernel_file
alone-is-file text k e = by (loop_place text) e
  where
    by : (o : Option Place) → alone_by o text ≡ Ok k → file_by o text ≡ Ok (plain k)
    by (Some announced) e = let l = bind_ok (loop_from text) _ e in absurd (no_loop l.2)
      where
        no_loop : (let none : Result Tree KernelFault = Err (LoopHere announced) in none ≡ Ok k) → ⊥
        no_loop e = cc
    by None e = step (kernel_of text) _ k e

guardable-is-file : (more : Bool) (text : List ℕ) (f : KernelFile) → guardable more text ≡ Ok f → kernel_file text ≡ Ok f
guardable-is-file true text f e = e
guardable-is-file false text f e = let k = bind_ok (kernel_alone text) _ e in alone-is-file text k.0 k.1 ∙ k.2

-- ---- what was written

answered : (r : Result Outcome Ending) (text : List ℕ) → IsAnswered r text → (o : Outcome) × (r ≡ Ok o) × IsAnswer o text
answered (Ok o) text is = (o, refl, is)
answered (Err e) text is = absurd is

-- a kernel file, and a text that stands for it
record Written (entries : List Entry) (file text : List ℕ) : Type 0 where
  kernel : KernelFile
  reads : kernel_file file ≡ Ok kernel
  stands : Stands entries text kernel

ok-is : (o p : Outcome) → (let given : Result Outcome Ending = Ok o in given ≡ Ok p) → o ≡ p
ok-is o p e = cc

compiled : (entries : List Entry) (choices : Choices) (text : List ℕ) (f : KernelFile) → IsAnswer (compiled_of entries choices f) text → Stands entries text f
compiled entries choices text (plain k) answer = program-stands (source entries k choices) text answer
compiled entries choices text (counted l) answer = looped-stands (loop_source entries l choices) text answer

guarded : (entries : List Entry) (choices : Choices) (text : List ℕ) (f : KernelFile) → IsAnswer (guarded_of entries choices f) text → Stands entries text f
guarded entries choices text (plain k) answer = guarded-stands (source entries k choices) text answer
guarded entries choices text (counted l) answer = guarded-loop-stands (loop_source entries l choices) text answer

written : (guard : Bool) (entries : List Entry) (choices : Choices) (file text : List ℕ) (o : Outcome) → told_of (cond guard Guarded Program) entries choices file ≡ Ok o → IsAnswer o text → Written entries file text
written false entries choices file text o e answer =
    let f = bind_ok (kernel_or_refusal second_file (kernel_file file)) _ e in
    record {
      kernel = f.0;
      reads = not-refused second_file (kernel_file file) f.0 f.1;
      stands = compiled entries choices text f.0 (subst (λ q. IsAnswer q text) (sym (ok-is (compiled_of entries choices f.0) o f.2)) answer);
    }
written true entries choices file text o e answer =
    let f = bind_ok (kernel_or_refusal second_file (guardable choices.more file)) _ e in
    record {
      kernel = f.0;
      reads = guardable-is-file choices.more file f.0 (not-refused second_file (guardable choices.more file) f.0 f.1);
      stands = guarded entries choices text f.0 (subst (λ q. IsAnswer q text) (sym (ok-is (guarded_of entries choices f.0) o f.2)) answer);
    }

-- ---- on the shelf

-- the files as they were read, and what was written of them
record Made (before : Held) (instructions kernel text : List ℕ) : Type 0 where
  library : List ℕ
  library_lies : file_of before first_file instructions instructions_limit ≡ Ok library
  entries : List Entry
  entries_read : entries_or_refusal first_file (entries_of library) ≡ Ok entries
  source : List ℕ
  source_lies : file_of before second_file kernel kernel_limit ≡ Ok source
  is : Written entries source text

made : (before : Held) (guard : Bool) (instructions kernel text : List ℕ) (choices : Choices) → IsAnswered (outcome_of before (compile instructions kernel choices guard)) text → Made before instructions kernel text
made before guard instructions kernel text choices is =
    let a = answered (outcome_of before (compile instructions kernel choices guard)) text is in
    let l = bind_ok (file_of before first_file instructions instructions_limit) _ a.1 in
    let e = bind_ok (entries_or_refusal first_file (entries_of l.0)) _ l.2 in
    let k = bind_ok (file_of before second_file kernel kernel_limit) _ e.2 in
    record {
      library = l.0;
      library_lies = l.1;
      entries = e.0;
      entries_read = e.1;
      source = k.0;
      source_lies = k.1;
      is = written guard e.0 choices k.0 text a.0 k.2 a.2;
    }

-- `run` reads the files and runs
ran-on : (before after : Held) (instructions kernel program memory text bytes : List ℕ) (bindings : List Binding) (m : Made before instructions kernel text) → Lie before after instructions kernel program memory text bytes
    → ran after instructions program memory bindings ≡ ran_on m.entries bindings m.is.stands.file bytes
ran-on before after instructions kernel program memory text bytes bindings m lie =
    step (file_of after first_file instructions instructions_limit) _ m.library (lies-too first_file first_file instructions_limit (get before instructions) (get after instructions) m.library lie.instructions_stay m.library_lies)
    ∙ step (entries_or_refusal first_file (entries_of m.library)) _ m.entries m.entries_read
    ∙ step (file_of after second_file program program_limit) _ text (held-small second_file program_limit (get after program) text lie.text_lies m.is.stands.small)
    ∙ step (program_or_refusal second_file (program_file (headers_of m.entries) text)) _ m.is.stands.file (ap (program_or_refusal second_file) m.is.stands.reads)
    ∙ step (file_of after third_file memory memory_limit) _ bytes (held-small third_file memory_limit (get after memory) bytes lie.memory_lies lie.small)

-- so does `eval`
evaluated-on : (before after : Held) (instructions kernel program memory text bytes : List ℕ) (bindings : List Binding) (m : Made before instructions kernel text) → Lie before after instructions kernel program memory text bytes
    → evaluated after kernel memory bindings ≡ evaluated_on bindings m.is.kernel bytes
evaluated-on before after instructions kernel program memory text bytes bindings m lie =
    step (file_of after first_file kernel kernel_limit) _ m.source (lies-too second_file first_file kernel_limit (get before kernel) (get after kernel) m.source lie.kernel_stays m.source_lies)
    ∙ step (kernel_or_refusal first_file (kernel_file m.source)) _ m.is.kernel (accepted first_file (kernel_file m.source) m.is.kernel m.is.reads)
    ∙ step (file_of after second_file memory memory_limit) _ bytes (held-small second_file memory_limit (get after memory) bytes lie.memory_lies lie.small)

run-is-read : (entries : List Entry) (text bytes : List ℕ) (bindings : List Binding) (f : KernelFile) (s : Stands entries text f) → run_on entries text bindings bytes ≡ ran_on entries bindings s.file bytes
run-is-read entries text bytes bindings f s = step (program_or_refusal second_file (program_file (headers_of entries) text)) _ s.file (ap (program_or_refusal second_file) s.reads)

pub compiled-texts-run-as-evaluated : CompiledTextsRunAsEvaluated
compiled-texts-run-as-evaluated before after instructions kernel program memory text bytes choices guard bindings is lie apart =
    let m = made before guard instructions kernel text choices is in
    let keeps = apart m.source m.is.kernel (held-is second_file kernel_limit (get before kernel) m.source m.source_lies) m.is.reads in
    let left = runs-as m.entries text m.is.kernel m.is.stands bindings bytes lie.are_bytes keeps in
    let same : ran after instructions program memory bindings ≡ evaluated after kernel memory bindings =
    ran-on before after instructions kernel program memory text bytes bindings m lie
    ∙ sym (run-is-read m.entries text bytes bindings m.is.kernel m.is.stands)
    ∙ left
    ∙ sym (evaluated-on before after instructions kernel program memory text bytes bindings m lie) in
    ap (λ r. r >>= λ bytes. Ok (memory_left bytes)) same
