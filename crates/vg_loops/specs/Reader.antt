-- Reading a loop from left to right, with the first fault that is met.
use Rattle.std.specs.Prelude.{ℕ, Bool, true, false, List, [], ◌∷◌, length, map, Option, Some, None, Result, Ok, Err, nat_le, nat_lt, slice_index, slice_set, codes, ◌&&◌, if◌then◌else◌}
use Rattle.std.specs.List.{list_any}
use Rattle.std.specs.Str.{bytes_eq}
use Rattle.vg_base.specs.Bind.{◌>>=◌, or_fault}
use Rattle.vg_text.specs.Number.{decimal_value}
use Rattle.vg_text.specs.Place.{first_place}
use Rattle.vg_text.specs.Words.{Reading, Spelled, reading_of, word_at}
use Rattle.vg_text.specs.declared.place.Place.{Place}
use Rattle.vg_kernel.specs.declared.fault.KernelFault.{KernelFault}
use Rattle.vg_kernel.specs.declared.fault.KernelFault.TheVariants.{Shape, UnknownName, DuplicateName, WidthMismatch, LiteralRange, TooLarge, NoMovingStore}
use Rattle.vg_kernel.specs.declared.given.Given.{Given}
use Rattle.vg_kernel.specs.declared.given.Given.TheVariants as given
use Rattle.vg_kernel.specs.declared.parameter.KParam.{KParam}
use Rattle.vg_kernel.specs.Names.{parameter_named}
use Rattle.vg_kernel.specs.Reader.{next_at, expect_at, end_at, name_at, pointer_of}
use Rattle.vg_kernel.specs.Statements.{head_at, block_at}
use Rattle.vg_kernel.specs.Tree.{Statement, assign, store, Tree}
use Rattle.vg_kernel.specs.WellFormed.{pointers}
use Rattle.vg_loop_laws.specs.Loops.{Loop}

-- the integer parameter that a name at this place stands for
abbrev pub integer_of : Option Given → Place → Result ℕ KernelFault
integer_of (Some (given.Argument k w)) place = Ok k
integer_of (Some _) place = Err (WidthMismatch place)
integer_of None place = Err (UnknownName place)

-- the name of an integer parameter
unfoldable pub integer_at : List KParam → Reading → Result (ℕ × Reading) KernelFault
integer_at params r = do
  name ← name_at r
  integer ← integer_of (parameter_named 0 0 params name.0.bytes) name.0.place
  Ok (integer, name.1)

-- a step in bytes: 1 to 65,536
abbrev pub step_of : Spelled → Result ℕ KernelFault
step_of word =
    or_fault (decimal_value word.bytes) (Shape word.place) >>= λ step.
    if nat_lt 0 step && nat_le step 65536 then Ok step else Err (LiteralRange word.place)

-- a pointer that has no step yet, where each without one has step 0
abbrev pub unstepped : List ℕ → ℕ → Place → Result ℕ KernelFault
unstepped steps pointer place =
    if nat_lt 0 (slice_index steps pointer) then Err (DuplicateName place) else Ok pointer

-- a pointer and its step, beside the steps that are known
unfoldable pub step_at : List KParam → List ℕ → Reading → Result (List ℕ × Reading) KernelFault
step_at params steps r = do
  name ← name_at r
  pointer ← pointer_of (parameter_named 0 0 params name.0.bytes) name.0.place
  fresh ← unstepped steps pointer name.0.place
  number ← next_at name.1
  step ← step_of number.0
  Ok (slice_set steps fresh step, number.1)

-- steps after commas. No pointer has two, so that there are at most as many as parameters.
unfoldable pub steps_behind : List KParam → List KParam → List ℕ → Reading
    → Result (List ℕ × Reading) KernelFault
steps_behind [] params steps r = Ok (steps, r)
steps_behind (p ∷ room) params steps r = do
  comma ← next_at r
  if bytes_eq comma.0.bytes (codes ",")
      then (step_at params steps comma.1 >>= λ s. steps_behind room params s.0 s.1)
      else Ok (steps, r)

-- one step or more
unfoldable pub steps_at : List KParam → Reading → Result (List ℕ × Reading) KernelFault
steps_at params r = do
  first ← step_at params (map (λ p. 0) (pointers params)) r
  steps_behind params params first.0 first.1

-- a store through a pointer that has a step
abbrev pub moves : List ℕ → Statement → Bool
moves steps (assign e) = false
moves steps (store w a e) = nat_lt 0 (slice_index steps a.pointer)

-- some statement is one
abbrev pub stores_moving : List ℕ → List Statement → Bool
stores_moving steps ss = list_any (moves steps) ss

-- after the brace that closes these statements, where one of them is
unfoldable pub moving_at : List ℕ → (Tree × Place) × Reading → Result Reading KernelFault
moving_at steps block =
    if stores_moving steps block.0.0.statements then Ok block.1 else Err (NoMovingStore block.0.1)

-- `loop name (parameters) times n step p S, .. { statements }`, and nothing after it
unfoldable pub loop_at : Reading → Result Loop KernelFault
loop_at r = do
  announced ← expect_at (codes "loop") r
  head ← head_at announced
  times ← expect_at (codes "times") head.1
  integer ← integer_at head.0.params times
  step ← expect_at (codes "step") integer.1
  steps ← steps_at head.0.params step
  block ← block_at head.0 steps.1
  moving ← moving_at steps.0 block
  ended ← end_at moving
  Ok (record { kernel = block.0.0; times = integer.0; steps = steps.0 })

-- the loop of a text of at most 262,144 bytes, or its first fault
unfoldable pub loop_from : List ℕ → Result Loop KernelFault
loop_from text =
    if nat_le (length text) 262144 then loop_at (reading_of text) else Err (TooLarge first_place)

-- the place of the word `loop` at the front of a text
abbrev pub announced : Result (Spelled × Reading) Place → Option Place
announced (Ok w) = if bytes_eq w.0.bytes (codes "loop") then Some w.0.place else None
announced (Err p) = None

abbrev pub loop_place : List ℕ → Option Place
loop_place text = announced (word_at (reading_of text))
