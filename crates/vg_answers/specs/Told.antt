-- What each request on texts is told: as of files that hold them, by the definitions of the commands.
use Rattle.std.specs.Prelude.{◌≡◌, ℕ, false, List, map, Option, Some, None, Result, Err, nat_le, if◌then◌else◌}
use Rattle.vg_base.specs.Bind.{◌>>=◌}
use Rattle.vg_catalog.specs.Called.{headers_of}
use Rattle.vg_catalog.specs.Entries.{Entry}
use Rattle.vg_catalog.specs.Files.{file_of as entries_of}
use Rattle.vg_compile.specs.Means.{param_of}
use Rattle.vg_library.specs.declared.library.Library.{Library}
use Rattle.vg_library.specs.Kept.{entries_kept}
use Rattle.vg_program.specs.Faults.{read}
use Rattle.vg_request.specs.Options.{Choices}
use Rattle.vg_top.specs.declared.ending.Ending.{Ending}
use Rattle.vg_top.specs.declared.ending.Ending.TheVariants.{Bindings, Usage}
use Rattle.vg_top.specs.declared.task.Task.{Task}
use Rattle.vg_top.specs.Check.{compared}
use Rattle.vg_top.specs.Eval.{evaluated_bound, params_in}
use Rattle.vg_top.specs.Files.{first_file, second_file, third_file, instructions_limit, kernel_limit, program_limit, memory_limit, judged}
use Rattle.vg_top.specs.Inputs.{InputLists}
use Rattle.vg_top.specs.InstructionFile.{entries_or_refusal}
use Rattle.vg_top.specs.KernelFile.{KernelFile, kernel_alone, kernel_file, kernel_or_refusal}
use Rattle.vg_top.specs.OnKernel.{told_of}
use Rattle.vg_top.specs.Outcome.{Outcome}
use Rattle.vg_top.specs.ProgramFile.{ProgramFile, params_of, program_file, program_or_refusal}
use Rattle.vg_top.specs.Run.{ran_bound}
use Rattle.vg_answers.specs.Given.{given}

-- the entries of an instruction file
abbrev pub entries_in_text : List ℕ → Result (List Entry) Ending
entries_in_text text = do
  t ← judged first_file instructions_limit (Some text)
  entries_or_refusal first_file (entries_of t)

-- and a set of the ten extensions
abbrev pub entries_told : ℕ → List ℕ → Result (List Entry) Ending
entries_told extensions text = if nat_le extensions 1023 then entries_in_text text else Err Usage

-- the library keeps the entries that are told
abbrev pub AreKept : Library → List Entry → Type 0
AreKept l entries = entries_kept l ≡ entries

-- `compile`, `compile --guard` and `explain`
abbrev pub written_told : Task → List Entry → Choices → List ℕ → Result Outcome Ending
written_told task entries choices text = do
  t ← judged second_file kernel_limit (Some text)
  told_of task entries choices t

-- `check`, without `--more`
abbrev pub checked_told : List Entry → List ℕ → List ℕ → Result Outcome Ending
checked_told entries kernel program = do
  t ← judged second_file kernel_limit (Some kernel)
  k ← kernel_or_refusal second_file (kernel_alone t)
  b ← judged third_file program_limit (Some program)
  p ← program_or_refusal third_file (read (headers_of entries) b)
  compared entries k p false

-- `eval`, with the values of the parameters
abbrev pub evaluated_by : Option InputLists → KernelFile → List ℕ → Result (List ℕ) Ending
evaluated_by None f memory = Err Bindings
evaluated_by (Some i) f memory = evaluated_bound i f memory

abbrev pub evaluated_given : KernelFile → List ℕ → List ℕ → List ℕ → Result (List ℕ) Ending
evaluated_given f memory places args =
    evaluated_by (given (map param_of (params_in f)) places args) f memory

abbrev pub evaluated_told : List ℕ → List ℕ → List ℕ → List ℕ → Result (List ℕ) Ending
evaluated_told kernel memory places args = do
  t ← judged first_file kernel_limit (Some kernel)
  f ← kernel_or_refusal first_file (kernel_file t)
  m ← judged second_file memory_limit (Some memory)
  evaluated_given f m places args

-- `run`, with the values of the parameters
abbrev pub ran_by : List Entry → Option InputLists → ProgramFile → List ℕ → Result (List ℕ) Ending
ran_by entries None p memory = Err Bindings
ran_by entries (Some i) p memory = ran_bound entries i p memory

abbrev pub ran_given : List Entry → ProgramFile → List ℕ → List ℕ → List ℕ → Result (List ℕ) Ending
ran_given entries p memory places args =
    ran_by entries (given (params_of p) places args) p memory

abbrev pub ran_told : List Entry → List ℕ → List ℕ → List ℕ → List ℕ → Result (List ℕ) Ending
ran_told entries program memory places args = do
  t ← judged second_file program_limit (Some program)
  p ← program_or_refusal second_file (program_file (headers_of entries) t)
  m ← judged third_file memory_limit (Some memory)
  ran_given entries p m places args
