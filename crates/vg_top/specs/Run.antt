-- What `run` answers, where it is known what the shelf holds: the memory that the program leaves,
-- or the first refusal. The files are judged one after the other, and after them the bindings.
use Rattle.std.specs.Prelude.{ℕ, List, Some, Result}
use Rattle.vg_base.specs.Bind.{◌>>=◌}
use Rattle.vg_outside.specs.Shelf.{Held}
use Rattle.vg_catalog.specs.Entries.{Entry}
use Rattle.vg_catalog.specs.Called.{called_by, headers_of}
use Rattle.vg_catalog.specs.Files.{file_of as entries_of}
use Rattle.vg_request.specs.Binding.{Binding}
use Rattle.vg_top.specs.declared.ending.Ending.{Ending}
use Rattle.vg_top.specs.Files.{first_file, second_file, third_file, instructions_limit, program_limit, memory_limit, file_of}
use Rattle.vg_top.specs.InstructionFile.{entries_or_refusal}
use Rattle.vg_top.specs.Inputs.{InputLists, inputs_of}
use Rattle.vg_top.specs.Left.{left_by}
use Rattle.vg_top.specs.ProgramFile.{ProgramFile, program_file, program_or_refusal, params_of, meaning_of, inputs_for}

-- with these values of its parameters
abbrev pub ran_bound : List Entry → InputLists → ProgramFile → List ℕ → Result (List ℕ) Ending
ran_bound entries i p memory = left_by (meaning_of (called_by entries) p) memory (inputs_for p (Some i))

unfoldable pub ran_on : List Entry → List Binding → ProgramFile → List ℕ → Result (List ℕ) Ending
ran_on entries bindings p memory =
    left_by (meaning_of (called_by entries) p) memory (inputs_for p (inputs_of bindings (params_of p)))

abbrev pub ran : Held → List ℕ → List ℕ → List ℕ → List Binding → Result (List ℕ) Ending
ran held instructions program memory bindings = do
  file ← file_of held first_file instructions instructions_limit
  entries ← entries_or_refusal first_file (entries_of file)
  text ← file_of held second_file program program_limit
  p ← program_or_refusal second_file (program_file (headers_of entries) text)
  bytes ← file_of held third_file memory memory_limit
  ran_on entries bindings p bytes
