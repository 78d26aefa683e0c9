-- Reading a guarded text from left to right, with the first fault that is met.
use Rattle.std.specs.Prelude.{ℕ, zero, suc, ◌+◌, max, List, [], ◌∷◌, ◌++◌, length, ◌==◌, ◌&&◌, nat_le, nat_lt, Result, Ok, Err, codes, if◌then◌else◌}
use Rattle.vg_base.specs.Bind.{◌>>=◌}
use Rattle.vg_pseudo.specs.declared.header.Header.{Header}
use Rattle.vg_text.specs.Place.{first_place}
use Rattle.vg_program.specs.declared.fault.Fault.{Fault}
use Rattle.vg_program.specs.declared.fault.Fault.TheVariants.{Shape, Range}
use Rattle.vg_program.specs.declared.param.Param.{Param}
use Rattle.vg_program.specs.declared.program_fault.ProgramFault.{ProgramFault}
use Rattle.vg_program.specs.declared.program_fault.ProgramFault.TheVariants.{TooLarge}
use Rattle.vg_program.specs.declared.signature.Signature.{Signature}
use Rattle.vg_program.specs.declared.stop.Stop.{Stop}
use Rattle.vg_program.specs.Faults.{located}
use Rattle.vg_program.specs.Grammar.{judged, named_in, pointer_of, offset_at, signature_at, body_at}
use Rattle.vg_program.specs.Text.{line_end}
use Rattle.vg_program.specs.Tokens.{Read, met, unfit, is_word, word_at, signs_at, name_at, number_at}
use Rattle.vg_guard.specs.declared.check.Check.{Check}
use Rattle.vg_guard.specs.declared.guarded.Guarded.{Guarded}
use Rattle.vg_guard.specs.declared.span.Span.{Span}

-- ---- ranges

-- how many bytes a range has
abbrev pub length_from : ℕ → Result ℕ Fault
length_from n = if nat_le 1 n && nat_le n 4294967303 then Ok n else Err Range

-- `p`, the number of a pointer
unfoldable pub pointer_at : List Param → List ℕ → Read ℕ
pointer_at params text = do
  name ← name_at text
  pointer ← judged text (pointer_of (named_in 0 0 params name.0))
  Ok (pointer, name.1)

-- `+0 8` after this pointer
unfoldable pub reach_at : ℕ → List ℕ → Read Span
reach_at pointer text = do
  offset ← offset_at text
  gap ← signs_at (codes " ") offset.1
  n ← number_at gap
  len ← judged gap (length_from n.0)
  Ok (record { pointer = pointer; low = offset.0; len = len }, n.1)

-- `p+0 8`, where a pointer may stand from this one on
unfoldable pub span_at : List Param → ℕ → List ℕ → Read Span
span_at params least text = do
  pointer ← pointer_at params text
  if nat_lt pointer.0 least then Err (met Shape text) else reach_at pointer.0 pointer.1

-- ---- checks

-- the least second pointer after this first one, where these are the pointers of the check before
abbrev pub least_second : ℕ × ℕ → ℕ → ℕ
least_second last p = (if nat_lt last.0 p then p else max p last.1) + 1

-- of two ranges
abbrev pub check_from : Span → Span → Check
check_from r s = record {
  first = r.pointer;
  first_low = r.low;
  first_len = r.len;
  second = s.pointer;
  second_low = s.low;
  second_len = s.len;
}

-- `check disjoint p+0 8 q+0 8`, where these are the pointers of the check before
unfoldable pub check_at : List Param → ℕ × ℕ → List ℕ → Read Check
check_at params last text = do
  check ← word_at (codes "check") text
  gap ← signs_at (codes " ") check
  disjoint ← word_at (codes "disjoint") gap
  space ← signs_at (codes " ") disjoint
  first ← span_at params last.0 space
  between ← signs_at (codes " ") first.1
  second ← span_at params (least_second last first.0.pointer) between
  rest ← signs_at line_end second.1
  Ok (check_from first.0 second.0, rest)

-- the pointers of a check
abbrev pub pair_of : Check → ℕ × ℕ
pair_of c = (c.first, c.second)

-- checks after these, with room for so many more, up to the word `then`
unfoldable pub checks_at : ℕ → List Param → List Check → ℕ × ℕ → List ℕ
    → Read (List Check)
checks_at zero params done last text =
    if is_word (codes "then") text then Ok (done, text) else Err (unfit text)
checks_at (suc room) params done last text =
    if is_word (codes "then") text then Ok (done, text) else do
      check ← check_at params last text
      checks_at room params (done ++ check.0 ∷ []) (pair_of check.0) check.1

-- ---- the whole

-- `guarded copy(d: ptr, k: i8)`
unfoldable pub guarded_line_at : List ℕ → Read Signature
guarded_line_at text = do
  word ← word_at (codes "guarded") text
  space ← signs_at (codes " ") word
  signature ← signature_at space
  rest ← signs_at line_end signature.1
  Ok (signature.0, rest)

-- a word that stands alone in its line
unfoldable pub word_line_at : List ℕ → List ℕ → Result (List ℕ) Stop
word_line_at word text = word_at word text >>= signs_at line_end

-- the number of the checks that were read
abbrev pub count_from : ℕ → ℕ → Result ℕ Fault
count_from counted n = if n == counted then Ok n else Err Range

-- `end checks 1`, where so many were read
unfoldable pub end_line_at : ℕ → List ℕ → Result (List ℕ) Stop
end_line_at counted text = do
  end ← word_at (codes "end") text
  gap ← signs_at (codes " ") end
  word ← word_at (codes "checks") gap
  number ← signs_at (codes " ") word
  n ← number_at number
  count ← judged number (count_from counted n.0)
  signs_at line_end n.1

-- a guarded program, where these instructions may be called
unfoldable pub guarded_at : List Header → List ℕ → Result Guarded Stop
guarded_at headers text = do
  first ← guarded_line_at text
  checks ← checks_at 4194304 first.0.params [] (0, 0) first.1
  quick ← word_line_at (codes "then") checks.1
  fast ← body_at headers first.0 quick
  plain ← word_line_at (codes "else") fast.1
  slow ← body_at headers first.0 plain
  last ← end_line_at (length checks.0) slow.1
  if length last == 0 then Ok (record { checks = checks.0; fast = fast.0; slow = slow.0 })
      else Err (unfit last)

-- the guarded program of a text, or its first fault, where these instructions may be called; a text
-- of more than 4 MiB is not looked at
unfoldable pub read_guarded : List Header → List ℕ → Result Guarded ProgramFault
read_guarded headers text =
    if nat_lt 4194304 (length text) then Err (TooLarge first_place)
    else located text (guarded_at headers text)
