-- What `compile` and `explain` answer, where it is known what the shelf holds: what is to be written of
-- the kernel or the loop, with the entries that its programs may call, or the first refusal. The files
-- are judged one after the other.
use Rattle.std.specs.Prelude.{ℕ, true, false, List, Result, Ok}
use Rattle.vg_base.specs.Bind.{◌>>=◌}
use Rattle.vg_outside.specs.Shelf.{Held}
use Rattle.vg_loop_laws.specs.Limits.{turns_of}
use Rattle.vg_loop_laws.specs.Unrolled.{unrolled}
use Rattle.vg_catalog.specs.Entries.{Entry}
use Rattle.vg_catalog.specs.Files.{file_of as entries_of}
use Rattle.vg_request.specs.Options.{Choices}
use Rattle.vg_request.specs.Request.{Asked, compile, explain}
use Rattle.vg_top.specs.declared.ending.Ending.{Ending}
use Rattle.vg_top.specs.declared.task.Task.{Task}
use Rattle.vg_top.specs.declared.task.Task.TheVariants.{Program, Guarded, Plan}
use Rattle.vg_top.specs.Answer.{source, loop_source}
use Rattle.vg_top.specs.Files.{first_file, second_file, instructions_limit, kernel_limit, file_of}
use Rattle.vg_top.specs.InstructionFile.{entries_or_refusal}
use Rattle.vg_top.specs.KernelFile.{KernelFile, plain, counted, kernel_file, guardable, kernel_or_refusal}
use Rattle.vg_top.specs.Outcome.{Outcome, program_for, guarded_for, looped_for, guarded_loop_for, plan_for}

-- the command that asks for it
abbrev pub asked_for : Task → List ℕ → List ℕ → Choices → Asked
asked_for Program instructions kernel choices = compile instructions kernel choices false
asked_for Guarded instructions kernel choices = compile instructions kernel choices true
asked_for Plan instructions kernel choices = explain instructions kernel choices

-- a program of a kernel, a looped text of a loop
abbrev pub compiled_of : List Entry → Choices → KernelFile → Outcome
compiled_of entries choices (plain k) = program_for (source entries k choices)
compiled_of entries choices (counted l) = looped_for (loop_source entries l choices)

-- two programs of a kernel, and checks; a guarded loop of a loop
abbrev pub guarded_of : List Entry → Choices → KernelFile → Outcome
guarded_of entries choices (plain k) = guarded_for (source entries k choices)
guarded_of entries choices (counted l) = guarded_loop_for (loop_source entries l choices)

-- the plan of a kernel; of a loop that of the kernel of the turns that a block has
abbrev pub planned_of : List Entry → Choices → KernelFile → Outcome
planned_of entries choices (plain k) = plan_for (source entries k choices)
planned_of entries choices (counted l) = plan_for (source entries (unrolled l (turns_of l)) choices)

-- what is to be written of a text: guards are made of loops only with more plans
abbrev pub told_of : Task → List Entry → Choices → List ℕ → Result Outcome Ending
told_of Program entries choices text =
    kernel_or_refusal second_file (kernel_file text) >>= λ f. Ok (compiled_of entries choices f)
told_of Guarded entries choices text =
    kernel_or_refusal second_file (guardable choices.more text) >>= λ f. Ok (guarded_of entries choices f)
told_of Plan entries choices text =
    kernel_or_refusal second_file (kernel_file text) >>= λ f. Ok (planned_of entries choices f)

abbrev pub written_for : Held → Task → List ℕ → List ℕ → Choices → Result Outcome Ending
written_for held task instructions kernel choices = do
  file ← file_of held first_file instructions instructions_limit
  entries ← entries_or_refusal first_file (entries_of file)
  text ← file_of held second_file kernel kernel_limit
  told_of task entries choices text
