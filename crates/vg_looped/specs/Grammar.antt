-- Reading a looped text from the front, with the first fault that is met.
use Rattle.std.specs.Prelude.{ℕ, zero, suc, ◌+◌, List, [], ◌∷◌, ◌++◌, length, ◌==◌, ◌&&◌, nat_le, nat_lt, Result, Ok, Err, codes, if◌then◌else◌}
use Rattle.vg_base.specs.Bind.{◌>>=◌}
use Rattle.vg_pseudo.specs.declared.header.Header.{Header}
use Rattle.vg_text.specs.Place.{first_place}
use Rattle.vg_program.specs.declared.fault.Fault.{Fault}
use Rattle.vg_program.specs.declared.fault.Fault.TheVariants.{Shape, Range}
use Rattle.vg_program.specs.declared.param.Param.{Param}
use Rattle.vg_program.specs.declared.program_fault.ProgramFault.{ProgramFault}
use Rattle.vg_program.specs.declared.program_fault.ProgramFault.TheVariants.{TooLarge}
use Rattle.vg_program.specs.declared.stop.Stop.{Stop}
use Rattle.vg_program.specs.Faults.{located}
use Rattle.vg_program.specs.Grammar.{judged, named_in, pointer_of, integer_of, signature_at, body_at}
use Rattle.vg_program.specs.Params.{pointers}
use Rattle.vg_program.specs.Text.{line_end}
use Rattle.vg_program.specs.Tokens.{Read, met, unfit, begins, word_at, signs_at, name_at, number_at}
use Rattle.vg_looped.specs.declared.looped.Looped.{Looped}
use Rattle.vg_looped.specs.declared.told.Told.{Told}
use Rattle.vg_looped.specs.Steps.{Pair, steps_of}

-- a number from 1 to this one
abbrev pub number_from : ℕ → ℕ → Result ℕ Fault
number_from most n = if nat_le 1 n && nat_le n most then Ok n else Err Range

-- `n`
unfoldable pub times_at : List Param → List ℕ → Read ℕ
times_at params text = do
  name ← name_at text
  k ← judged text (integer_of (named_in 0 0 params name.0))
  Ok (k.0, name.1)

-- a step after its pointer
unfoldable pub step_at : ℕ → List ℕ → Read Pair
step_at pointer text = do
  gap ← signs_at (codes " ") text
  n ← number_at gap
  step ← judged gap (number_from 65536 n.0)
  Ok ((pointer, step), n.1)

-- `p 4`, where a pointer may stand from this one on
unfoldable pub pair_at : List Param → ℕ → List ℕ → Read Pair
pair_at params least text = do
  name ← name_at text
  pointer ← judged text (pointer_of (named_in 0 0 params name.0))
  if nat_lt pointer least then Err (met Shape text) else step_at pointer name.1

-- pairs after these, with room for so many more; 17 are never in order
unfoldable pub pairs_at : ℕ → List Param → List Pair → ℕ → List ℕ → Read (List Pair)
pairs_at zero params done least text = Err (unfit text)
pairs_at (suc room) params done least text = do
  x ← pair_at params least text
  if begins 44 x.1 then (do
    rest ← signs_at (codes ", ") x.1
    pairs_at room params (done ++ x.0 ∷ []) (x.0.0 + 1) rest)
      else Ok (done ++ x.0 ∷ [], x.1)

-- ` times n step p 4 block 16`
unfoldable pub turns_at : List Param → List ℕ → Read Told
turns_at params text = do
  a ← signs_at (codes " ") text
  b ← word_at (codes "times") a
  c ← signs_at (codes " ") b
  times ← times_at params c
  d ← signs_at (codes " ") times.1
  e ← word_at (codes "step") d
  f ← signs_at (codes " ") e
  pairs ← pairs_at 17 params [] 0 f
  g ← signs_at (codes " ") pairs.1
  h ← word_at (codes "block") g
  i ← signs_at (codes " ") h
  n ← number_at i
  turns ← judged i (number_from 16 n.0)
  Ok (record { times = times.0; pairs = pairs.0; turns = turns }, n.1)

-- a word that stands alone in its line
unfoldable pub word_line_at : List ℕ → List ℕ → Result (List ℕ) Stop
word_line_at word text = word_at word text >>= signs_at line_end

-- the whole text
unfoldable pub looped_at : List Header → List ℕ → Result Looped Stop
looped_at headers text = do
  word ← word_at (codes "looped") text
  space ← signs_at (codes " ") word
  signature ← signature_at space
  told ← turns_at signature.0.params signature.1
  first ← signs_at line_end told.1
  block ← body_at headers signature.0 first
  second ← word_line_at (codes "rest") block.1
  rest ← body_at headers signature.0 second
  end ← word_at (codes "end") rest.1
  gap ← signs_at (codes " ") end
  last ← word_line_at (codes "looped") gap
  if length last == 0 then Ok (record {
    block = block.0;
    rest = rest.0;
    times = told.0.times;
    steps = steps_of 0 (length (pointers signature.0.params)) told.0.pairs;
    turns = told.0.turns;
  })
      else Err (unfit last)

-- the looped text that a text is, or its first fault, where these instructions may be called; a
-- text of more than 4 MiB is not looked at
unfoldable pub read_looped : List Header → List ℕ → Result Looped ProgramFault
read_looped headers text =
    if nat_lt 4194304 (length text) then Err (TooLarge first_place)
    else located text (looped_at headers text)
