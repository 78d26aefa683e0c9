-- What `check` answers, where it is known what the shelf holds: that the program means the kernel, the first
-- difference, or the first refusal. The files are judged one after the other, and the two are compared after
-- them.
use Rattle.std.specs.Prelude.{ℕ, Bool, List, Option, Some, None, Result, Ok, Err}
use Rattle.vg_base.specs.Bind.{◌>>=◌}
use Rattle.vg_outside.specs.Shelf.{Held}
use Rattle.vg_catalog.specs.Entries.{Entry}
use Rattle.vg_catalog.specs.Called.{headers_of}
use Rattle.vg_catalog.specs.Files.{file_of as entries_of}
use Rattle.vg_kernel.specs.Tree.{Tree}
use Rattle.vg_program.specs.declared.program.Program.{Program}
use Rattle.vg_program.specs.Faults.{read}
use Rattle.vg_check.specs.Compared.{told_difference}
use Rattle.vg_top.specs.declared.ending.Ending.{Ending}
use Rattle.vg_top.specs.declared.ending.Ending.TheVariants.{Differs}
use Rattle.vg_top.specs.Answer.{Pair, pair}
use Rattle.vg_top.specs.Files.{first_file, second_file, third_file, instructions_limit, kernel_limit, program_limit, file_of}
use Rattle.vg_top.specs.InstructionFile.{entries_or_refusal}
use Rattle.vg_top.specs.KernelFile.{kernel_alone, kernel_or_refusal}
use Rattle.vg_top.specs.Outcome.{Outcome, same_for}
use Rattle.vg_top.specs.ProgramFile.{program_or_refusal}

-- the text of a difference ends the run
abbrev pub same_unless : Pair → Option (List ℕ) → Result Outcome Ending
same_unless q None = Ok (same_for q)
same_unless q (Some text) = Err (Differs text)

-- with more the first wider difference is told
abbrev pub compared : List Entry → Tree → Program → Bool → Result Outcome Ending
compared entries kernel program more =
    same_unless (pair entries kernel program) (told_difference entries kernel program more)

-- no loop and no guarded or looped text may stand here
abbrev pub checked : Held → List ℕ → List ℕ → List ℕ → Bool → Result Outcome Ending
checked held instructions kernel program more = do
  file ← file_of held first_file instructions instructions_limit
  entries ← entries_or_refusal first_file (entries_of file)
  text ← file_of held second_file kernel kernel_limit
  k ← kernel_or_refusal second_file (kernel_alone text)
  body ← file_of held third_file program program_limit
  p ← program_or_refusal third_file (read (headers_of entries) body)
  compared entries k p more
