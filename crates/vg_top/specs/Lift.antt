-- What `lift` answers, where it is known what the shelf holds: the lines on all instances of the
-- entries in a file, or the first refusal.
use Rattle.std.specs.Prelude.{◌≡◌, ℕ, List, Result, Ok, Vec}
use Rattle.std.specs.declared.alloc.Global.{Global}
use Rattle.vg_base.specs.Bind.{◌>>=◌}
use Rattle.vg_outside.specs.Shelf.{Held}
use Rattle.vg_catalog.specs.Entries.{Entry}
use Rattle.vg_catalog.specs.Files.{file_of as entries_of}
use Rattle.vg_lift_text.specs.Listed.{entries_text}
use Rattle.vg_top.specs.declared.ending.Ending.{Ending}
use Rattle.vg_top.specs.Files.{first_file, instructions_limit, file_of}
use Rattle.vg_top.specs.InstructionFile.{entries_or_refusal}

-- the lines on the entries that are told
abbrev pub lines_of : Result (List Entry) Ending → Result (List ℕ) Ending
lines_of told = told >>= λ entries. Ok (entries_text entries)

abbrev pub listed : Held → List ℕ → Result (List ℕ) Ending
listed held instructions = do
  file ← file_of held first_file instructions instructions_limit
  lines_of (entries_or_refusal first_file (entries_of file))

-- the bytes of a vector are the lines
abbrev pub AreLines : Vec ℕ Global → List ℕ → Type 0
AreLines bytes lines = bytes.items ≡ lines
