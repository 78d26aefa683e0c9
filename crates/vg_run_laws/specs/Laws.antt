-- What `run` leaves of a text that `compile` wrote is what `eval` leaves of the kernel or the loop.
use Rattle.std.specs.Prelude.{◌≡◌, ℕ, ◌≤◌, Bool, List, length, map, Some, Result, Ok}
use Rattle.std.specs.FinMap.{get}
use Rattle.vg_base.specs.Bind.{◌>>=◌}
use Rattle.vg_outside.specs.Shelf.{Held}
use Rattle.vg_catalog.specs.Called.{headers_of}
use Rattle.vg_catalog.specs.Entries.{Entry}
use Rattle.vg_kernel.specs.Layout.{Respects}
use Rattle.vg_compile.specs.Means.{param_of}
use Rattle.vg_loop_laws.specs.Inputs.{AreBytes, LoopRespects}
use Rattle.vg_loop_laws.specs.Loops.{turns_asked}
use Rattle.vg_request.specs.Binding.{Binding}
use Rattle.vg_request.specs.Options.{Choices}
use Rattle.vg_request.specs.Request.{compile, run, eval}
use Rattle.vg_top.specs.declared.ending.Ending.{Ending}
use Rattle.vg_top.specs.Answer.{Source, LoopSource, Answer, GuardedAnswer, LoopedAnswer, GuardedLoopAnswer}
use Rattle.vg_top.specs.Eval.{params_in, inputs_in, evaluated_on}
use Rattle.vg_top.specs.Files.{second_file, memory_limit}
use Rattle.vg_top.specs.Inputs.{InputLists, inputs_of}
use Rattle.vg_top.specs.KernelFile.{KernelFile, plain, counted, kernel_file}
use Rattle.vg_top.specs.ProgramFile.{program_file, program_or_refusal}
use Rattle.vg_top.specs.Run.{ran_on}
use Rattle.vg_top.specs.Verdict.{IsAnswered, outcome_of}

-- places, and numbers beside them, keep what a kernel or a loop says of `noalias`
abbrev pub KeepsNoalias : KernelFile → InputLists → Type 0
KeepsNoalias (plain k) i = Respects k i.places
KeepsNoalias (counted l) i = LoopRespects l (turns_asked l.times i.args) i.places

-- so do the places that words bind, where they bind what it may be run on
abbrev pub BindApart : List Binding → KernelFile → Type 0
BindApart bindings f =
    (i : InputLists)
    → inputs_in f (inputs_of bindings (map param_of (params_in f))) ≡ Some i
    → KeepsNoalias f i

-- what `run` answers on the text of a program and a memory, or the first refusal of either
abbrev pub run_on : List Entry → List ℕ → List Binding → List ℕ → Result (List ℕ) Ending
run_on entries text bindings memory = do
  p ← program_or_refusal second_file (program_file (headers_of entries) text)
  ran_on entries bindings p memory

-- on every memory, `run` answers on the text what `eval` answers on the kernel or the loop: the same
-- memory, a trap where it traps, and a refusal of the words where it refuses them
abbrev pub RunsAs : List Entry → List ℕ → KernelFile → Type 0
RunsAs entries text f =
    (bindings : List Binding) (memory : List ℕ) → AreBytes memory → BindApart bindings f
    → run_on entries text bindings memory ≡ evaluated_on bindings f memory

abbrev pub ProgramsRunAsKernels : Type 0
ProgramsRunAsKernels =
    (s : Source) (text : List ℕ) → Answer s text → RunsAs s.entries text (plain s.kernel)

abbrev pub GuardedTextsRunAsKernels : Type 0
GuardedTextsRunAsKernels =
    (s : Source) (text : List ℕ) → GuardedAnswer s text → RunsAs s.entries text (plain s.kernel)

abbrev pub LoopedTextsRunAsLoops : Type 0
LoopedTextsRunAsLoops =
    (s : LoopSource) (text : List ℕ) → LoopedAnswer s text
    → RunsAs s.entries text (counted s.loop)

abbrev pub GuardedLoopsRunAsLoops : Type 0
GuardedLoopsRunAsLoops =
    (s : LoopSource) (text : List ℕ) → GuardedLoopAnswer s text
    → RunsAs s.entries text (counted s.loop)

-- What lies on a shelf after `compile` wrote a text: the two files that were there before, the text, and
-- a memory that is not too large, whatever else has come or gone.
pub record Lie
    (before after : Held) (instructions kernel program memory : List ℕ) (text bytes : List ℕ)
    : Type 0 where
  pub instructions_stay : get after instructions ≡ get before instructions
  pub kernel_stays : get after kernel ≡ get before kernel
  pub text_lies : get after program ≡ Some text
  pub memory_lies : get after memory ≡ Some bytes
  pub small : length bytes ≤ memory_limit
  pub are_bytes : AreBytes bytes

-- the words keep what the kernel file says of `noalias`
abbrev pub ApartIn : Held → List ℕ → List Binding → Type 0
ApartIn held kernel bindings =
    (file : List ℕ) (f : KernelFile) → get held kernel ≡ Some file → kernel_file file ≡ Ok f
    → BindApart bindings f

abbrev pub CompiledTextsRunAsEvaluated : Type 0
CompiledTextsRunAsEvaluated =
    (before after : Held) (instructions kernel program memory text bytes : List ℕ)
    (choices : Choices) (guard : Bool) (bindings : List Binding)
    → IsAnswered (outcome_of before (compile instructions kernel choices guard)) text
    → Lie before after instructions kernel program memory text bytes
    → ApartIn before kernel bindings
    → outcome_of after (run instructions program memory bindings)
    ≡ outcome_of after (eval kernel memory bindings)
