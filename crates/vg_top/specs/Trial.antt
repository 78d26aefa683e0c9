-- What `trial` answers, where it is known what the shelf holds: the trial on which a line is
-- written, with the entries that its program may call, or the first refusal.
use Rattle.std.specs.Prelude.{ℕ, List, Result, Ok, Vec}
use Rattle.std.specs.declared.alloc.Global.{Global}
use Rattle.vg_base.specs.Bind.{◌>>=◌}
use Rattle.vg_outside.specs.Shelf.{Held}
use Rattle.vg_catalog.specs.Entries.{Entry}
use Rattle.vg_catalog.specs.Files.{file_of as entries_of}
use Rattle.vg_trial_line.specs.TrialLine.{IsTrialLine}
use Rattle.vg_top.specs.declared.ending.Ending.{Ending}
use Rattle.vg_top.specs.Files.{first_file, instructions_limit, file_of}
use Rattle.vg_top.specs.InstructionFile.{entries_or_refusal}

-- the entries that there are, and the number of the trial
pub record Trial : Type 0 where
  pub entries : List Entry
  pub number : ℕ

-- the trial with the entries that are told
abbrev pub trial_of : ℕ → Result (List Entry) Ending → Result Trial Ending
trial_of number told = told >>= λ entries. Ok (record { entries = entries; number = number })

abbrev pub trial_told : Held → List ℕ → ℕ → Result Trial Ending
trial_told held instructions number = do
  file ← file_of held first_file instructions instructions_limit
  trial_of number (entries_or_refusal first_file (entries_of file))

-- the bytes of a vector are the line on the trial
abbrev pub IsLineOn : Vec ℕ Global → Trial → Type 0
IsLineOn bytes t = IsTrialLine t.entries t.number bytes.items
