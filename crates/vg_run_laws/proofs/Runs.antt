-- Texts that are compiled, read again and run.
use Rattle.std.proofs.Common.{◌≡◌, ℕ, ◌≤◌, true, false, List, length, map, take, Option, Some, None, Result, Ok, refl, sym, ap, subst, ◌∙◌}
use Rattle.std.specs.Prelude.{codes}
use Rattle.std.specs.Str.{bytes_eq}
use Rattle.vg_catalog.specs.Called.{called_by, headers_of}
use Rattle.vg_catalog.specs.Entries.{Entry}
use Rattle.vg_compile.specs.Means.{param_of}
use Rattle.vg_guard.specs.declared.guarded.Guarded.{Guarded}
use Rattle.vg_guard.specs.Guarded.{guarded_text, IsGuarded}
use Rattle.vg_guard.proofs.GuardedTexts as guards
use Rattle.vg_guarded_loop.specs.declared.guarded_loop.GuardedLoop.{GuardedLoop}
use Rattle.vg_guarded_loop.specs.GuardedLoop.{guarded_loop_text, IsGuardedLoop}
use Rattle.vg_guarded_loop.proofs.Texts as loops
use Rattle.vg_looped.specs.declared.looped.Looped.{Looped}
use Rattle.vg_looped.specs.Looped.{looped_text, IsLooped}
use Rattle.vg_loop_laws.specs.Inputs.{AreBytes}
use Rattle.vg_loop_laws.specs.Loops.{Run}
use Rattle.vg_program.specs.declared.program.Program.{Program}
use Rattle.vg_program.specs.declared.signature.Signature.{Signature}
use Rattle.vg_program.specs.Text.{text_of, signature_of}
use Rattle.vg_program.specs.Valid.{IsValid}
use Rattle.vg_program.proofs.ProgramLaws as programs
use Rattle.vg_pseudo.specs.declared.header.Header.{Header}
use Rattle.vg_reading_laws.proofs.Texts.{looped-again}
use Rattle.vg_request.specs.Binding.{Binding}
use Rattle.vg_top.specs.Answer.{Source, LoopSource, Answer, GuardedAnswer, LoopedAnswer, GuardedLoopAnswer}
use Rattle.vg_top.specs.Eval.{params_in, meaning_in, inputs_in, evaluated_on}
use Rattle.vg_top.specs.Files.{program_limit}
use Rattle.vg_top.specs.Inputs.{InputLists, inputs_of}
use Rattle.vg_top.specs.KernelFile.{KernelFile, plain as kernel, counted}
use Rattle.vg_top.specs.Left.{memory_or_trap, left_by}
use Rattle.vg_top.specs.ProgramFile.{ProgramFile, plain, guarded, looped, guarded_loop, program_file, params_of, meaning_of, inputs_for}
use Rattle.vg_top.specs.Run.{ran_on}
use Rattle.vg_run_laws.specs.Laws.{KeepsNoalias, run_on, RunsAs, ProgramsRunAsKernels, GuardedTextsRunAsKernels, LoopedTextsRunAsLoops, GuardedLoopsRunAsLoops}
use Rattle.vg_run_laws.proofs.Bound.{input, loop-input}

-- ---- texts are read by their first word

program-begins : (p : Program) → (bytes_eq (take 8 (text_of p)) (codes "guarded ") ≡ false) × (bytes_eq (take 7 (text_of p)) (codes "looped ") ≡ false) × (bytes_eq (take 12 (text_of p)) (codes "guardedloop ") ≡ false)
unfolding text_of
program-begins p = (refl, refl, refl)

guarded-begins : (g : Guarded) → bytes_eq (take 8 (guarded_text g)) (codes "guarded ") ≡ true
unfolding guarded_text
guarded-begins g = refl

looped-begins : (l : Looped) → (bytes_eq (take 8 (looped_text l)) (codes "guarded ") ≡ false) × (bytes_eq (take 7 (looped_text l)) (codes "looped ") ≡ true)
unfolding looped_text
looped-begins l = (refl, refl)

guarded-loop-begins : (l : GuardedLoop) → (bytes_eq (take 8 (guarded_loop_text l)) (codes "guarded ") ≡ false) × (bytes_eq (take 7 (guarded_loop_text l)) (codes "looped ") ≡ false) × (bytes_eq (take 12 (guarded_loop_text l)) (codes "guardedloop ") ≡ true)
unfolding guarded_loop_text
guarded-loop-begins l = (refl, refl, refl)

pub program-read : (headers : List Header) (p : Program) → IsValid headers p → program_file headers (text_of p) ≡ Ok (plain p)
unfolding program_file
program-read headers p valid = let begins = program-begins p in rw (begins.0, begins.1, begins.2, programs.read_again headers p valid) refl

pub guarded-read : (headers : List Header) (g : Guarded) → IsGuarded headers g → program_file headers (guarded_text g) ≡ Ok (guarded g)
unfolding program_file
guarded-read headers g rules = rw (guarded-begins g, guards.read_again headers g rules) refl

pub looped-read : (headers : List Header) (l : Looped) → IsLooped headers l → program_file headers (looped_text l) ≡ Ok (looped l)
unfolding program_file
looped-read headers l rules = let begins = looped-begins l in rw (begins.0, begins.1, looped-again headers l rules) refl

pub guarded-loop-read : (headers : List Header) (l : GuardedLoop) → IsGuardedLoop headers l → program_file headers (guarded_loop_text l) ≡ Ok (guarded_loop l)
unfolding program_file
guarded-loop-read headers l rules = let begins = guarded-loop-begins l in rw (begins.0, begins.1, begins.2, loops.read_again headers l rules) refl

-- ---- what is left

left-same : (run other : Run) (memory : List ℕ) (o : Option InputLists) → ((i : InputLists) → o ≡ Some i → run memory i.places i.args ≡ other memory i.places i.args) → left_by run memory o ≡ left_by other memory o
left-same run other memory None same = refl
left-same run other memory (Some i) same = ap memory_or_trap (same i refl)

-- a text that is read as a program file which means the kernel file
pub record Stands (entries : List Entry) (text : List ℕ) (f : KernelFile) : Type 0 where
  pub file : ProgramFile
  pub small : length text ≤ program_limit
  pub reads : program_file (headers_of entries) text ≡ Ok file
  pub params : params_of file ≡ map param_of (params_in f)
  pub inputs : (o : Option InputLists) → inputs_for file o ≡ inputs_in f o
  pub means : (bindings : List Binding) (memory : List ℕ) (i : InputLists) → AreBytes memory
      → inputs_in f (inputs_of bindings (map param_of (params_in f))) ≡ Some i → KeepsNoalias f i
      → meaning_of (called_by entries) file memory i.places i.args ≡ meaning_in f memory i.places i.args

pub runs-as : (entries : List Entry) (text : List ℕ) (f : KernelFile) → Stands entries text f → RunsAs entries text f
unfolding ran_on
runs-as entries text f stands bindings memory bytes apart =
    let run = meaning_of (called_by entries) stands.file in
    let given = inputs_of bindings (map param_of (params_in f)) in
    let read : run_on entries text bindings memory ≡ ran_on entries bindings stands.file memory = rw stands.reads refl in
    let bound = ap (λ ps. left_by run memory (inputs_for stands.file (inputs_of bindings ps))) stands.params in
    let turned = ap (λ o. left_by run memory o) (stands.inputs given) in
    let left = left-same run (meaning_in f) memory (inputs_in f given) (λ i is. stands.means bindings memory i bytes is (apart i is)) in
    read ∙ bound ∙ turned ∙ left

-- one text for another
read-same : (entries : List Entry) (text other : List ℕ) (file : ProgramFile) → text ≡ other → program_file (headers_of entries) other ≡ Ok file → program_file (headers_of entries) text ≡ Ok file
read-same entries text other file same reads = ap (program_file (headers_of entries)) same ∙ reads

short : (text other : List ℕ) → text ≡ other → length other ≤ program_limit → length text ≤ program_limit
short text other same few = subst (λ (t : List ℕ). length t ≤ program_limit) (sym same) few

-- ---- what is compiled

pub program-stands : (s : Source) (text : List ℕ) → Answer s text → Stands s.entries text (kernel s.kernel)
program-stands s text answer =
    let c = answer.compiled in
    record {
      file = plain answer.program;
      small = short text (text_of answer.program) answer.text c.valid.size;
      reads = read-same s.entries text (text_of answer.program) (plain answer.program) answer.text (program-read (headers_of s.entries) answer.program c.valid);
      params = c.means.params;
      inputs = λ o. refl;
      means = λ bindings memory i bytes is apart. c.means.same memory i.places i.args (input s.kernel bindings memory i is bytes apart);
    }

pub guarded-stands : (s : Source) (text : List ℕ) → GuardedAnswer s text → Stands s.entries text (kernel s.kernel)
guarded-stands s text answer =
    let c = answer.compiled in
    let g = answer.guarded in
    record {
      file = guarded g;
      small = short text (guarded_text g) answer.text c.rules.size;
      reads = read-same s.entries text (guarded_text g) (guarded g) answer.text (guarded-read (headers_of s.entries) g c.rules);
      params = sym (ap (λ (q : Signature). q.params) c.rules.signature) ∙ c.slow.means.params;
      inputs = λ o. refl;
      means = λ bindings memory i bytes is apart. c.means memory i.places i.args (input s.kernel bindings memory i is bytes apart);
    }

pub looped-stands : (s : LoopSource) (text : List ℕ) → LoopedAnswer s text → Stands s.entries text (counted s.loop)
looped-stands s text answer =
    let c = answer.compiled in
    let l = answer.looped in
    record {
      file = looped l;
      small = short text (looped_text l) answer.text c.rules.size;
      reads = read-same s.entries text (looped_text l) (looped l) answer.text (looped-read (headers_of s.entries) l c.rules);
      params = sym (ap (λ (q : Signature). q.params) c.rules.signature) ∙ c.rest.means.params;
      inputs = λ o. rw (c.times, c.steps) refl;
      means = λ bindings memory i bytes is apart. c.means memory i.places i.args (loop-input s.loop bindings memory i is bytes apart);
    }

pub guarded-loop-stands : (s : LoopSource) (text : List ℕ) → GuardedLoopAnswer s text → Stands s.entries text (counted s.loop)
guarded-loop-stands s text answer =
    let c = answer.compiled in
    let l = answer.guarded in
    record {
      file = guarded_loop l;
      small = short text (guarded_loop_text l) answer.text c.rules.size;
      reads = read-same s.entries text (guarded_loop_text l) (guarded_loop l) answer.text (guarded-loop-read (headers_of s.entries) l c.rules);
      params = sym (ap (λ (q : Signature). q.params) c.rules.looped.signature) ∙ c.rest.means.params;
      inputs = λ o. rw (c.times, c.steps) refl;
      means = λ bindings memory i bytes is apart. c.means memory i.places i.args (loop-input s.loop bindings memory i is bytes apart);
    }

pub programs-run-as-kernels : ProgramsRunAsKernels
programs-run-as-kernels s text answer = runs-as s.entries text (kernel s.kernel) (program-stands s text answer)

pub guarded-texts-run-as-kernels : GuardedTextsRunAsKernels
guarded-texts-run-as-kernels s text answer = runs-as s.entries text (kernel s.kernel) (guarded-stands s text answer)

pub looped-texts-run-as-loops : LoopedTextsRunAsLoops
looped-texts-run-as-loops s text answer = runs-as s.entries text (counted s.loop) (looped-stands s text answer)

pub guarded-loops-run-as-loops : GuardedLoopsRunAsLoops
guarded-loops-run-as-loops s text answer = runs-as s.entries text (counted s.loop) (guarded-loop-stands s text answer)
