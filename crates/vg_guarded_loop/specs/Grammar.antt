-- Reading a guarded loop from the front, with the first fault that is met.
use Rattle.std.specs.Prelude.{ℕ, List, [], length, ◌==◌, nat_lt, Result, Ok, Err, codes, if◌then◌else◌}
use Rattle.vg_base.specs.Bind.{◌>>=◌}
use Rattle.vg_pseudo.specs.declared.header.Header.{Header}
use Rattle.vg_text.specs.Place.{first_place}
use Rattle.vg_program.specs.declared.program.Program.{Program}
use Rattle.vg_program.specs.declared.program_fault.ProgramFault.{ProgramFault}
use Rattle.vg_program.specs.declared.program_fault.ProgramFault.TheVariants.{TooLarge}
use Rattle.vg_program.specs.declared.signature.Signature.{Signature}
use Rattle.vg_program.specs.declared.stop.Stop.{Stop}
use Rattle.vg_program.specs.Faults.{located}
use Rattle.vg_program.specs.Grammar.{signature_at, body_at}
use Rattle.vg_program.specs.Params.{pointers}
use Rattle.vg_program.specs.Text.{line_end}
use Rattle.vg_program.specs.Tokens.{Read, unfit, word_at, signs_at}
use Rattle.vg_guard.specs.declared.guarded.Guarded.{Guarded}
use Rattle.vg_guard.specs.Grammar.{checks_at, end_line_at}
use Rattle.vg_looped.specs.declared.told.Told.{Told}
use Rattle.vg_looped.specs.Grammar.{turns_at, word_line_at}
use Rattle.vg_looped.specs.Steps.{steps_of}
use Rattle.vg_guarded_loop.specs.declared.guarded_loop.GuardedLoop.{GuardedLoop}

-- `guardedloop copy(d: ptr, s: ptr, n: i32) times n step d 4, s 4 block 16`
unfoldable pub first_line_at : List ℕ → Read (Signature × Told)
first_line_at text = do
  word ← word_at (codes "guardedloop") text
  space ← signs_at (codes " ") word
  signature ← signature_at space
  told ← turns_at signature.0.params signature.1
  rest ← signs_at line_end told.1
  Ok ((signature.0, told.0), rest)

-- the checks and both sides of a block, where these instructions may be called
unfoldable pub sides_at : List Header → Signature → List ℕ → Read Guarded
sides_at headers s text = do
  checks ← checks_at 4194304 s.params [] (0, 0) text
  quick ← word_line_at (codes "then") checks.1
  fast ← body_at headers s quick
  plain ← word_line_at (codes "else") fast.1
  slow ← body_at headers s plain
  last ← end_line_at (length checks.0) slow.1
  Ok (record { checks = checks.0; fast = fast.0; slow = slow.0 }, last)

-- the turns that are left over, and the last line
unfoldable pub rest_at : List Header → Signature → List ℕ → Read Program
rest_at headers s text = do
  lines ← word_line_at (codes "rest") text
  rest ← body_at headers s lines
  end ← word_at (codes "end") rest.1
  gap ← signs_at (codes " ") end
  last ← word_line_at (codes "looped") gap
  Ok (rest.0, last)

-- the whole text
unfoldable pub guarded_loop_at : List Header → List ℕ → Result GuardedLoop Stop
guarded_loop_at headers text = do
  first ← first_line_at text
  block ← sides_at headers first.0.0 first.1
  rest ← rest_at headers first.0.0 block.1
  if length rest.1 == 0 then Ok (record {
    block = block.0;
    rest = rest.0;
    times = first.0.1.times;
    steps = steps_of 0 (length (pointers first.0.0.params)) first.0.1.pairs;
    turns = first.0.1.turns;
  })
      else Err (unfit rest.1)

-- the guarded loop that a text is, or its first fault, where these instructions may be called; a
-- text of more than 4 MiB is not looked at
unfoldable pub read_guarded_loop : List Header → List ℕ → Result GuardedLoop ProgramFault
read_guarded_loop headers text =
    if nat_lt 4194304 (length text) then Err (TooLarge first_place)
    else located text (guarded_loop_at headers text)
