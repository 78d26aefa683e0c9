-- A script: an operation written out for one immediate, as straight statements over words of at
-- most 128 bits. FORs are written out, indices are numbers or words, and a call is a block with
-- registers and variables of its own.
use Rattle.std.specs.Prelude.{ℕ, ℤ, List}
use Rattle.vg_terms.specs.declared.term.OneOp.{OneOp}
use Rattle.vg_terms.specs.declared.term.TwoOp.{TwoOp}

-- Registers and variables go by their numbers; a variable has 128 bits. `one`, `two` and `sel` are
-- the operations of terms, with the width first. `absolute` and the two shifts by a word are of 128
-- bits. `block` is what a frame answers.
mutual
  pub data Word : Type 0 where
    constant : ℕ → ℕ → Word
    slice : ℕ → Low → ℕ → Word
    variable : ℕ → Word
    one : OneOp → ℕ → ℕ → Word → Word
    two : TwoOp → ℕ → Word → Word → Word
    sel : ℕ → Word → Word → Word → Word
    absolute : Word → Word
    shift_left : Word → Word → Word
    shift_right : Word → Word → Word
    block : Frame → Word → Word

  -- where a slice begins: at a bit, or at the bit that a word of 128 bits says
  pub data Low : Type 0 where
    at : ℕ → Low
    held : Word → Low

  -- a call: the widths of its registers, how many variables it has, what its first registers are
  -- given, its statements
  pub data Frame : Type 0 where
    frame : List ℕ → ℕ → Given → Script → Frame

  -- what registers are given, one after the other: a word of 128 bits, a constant, or bits of a
  -- register from a place on
  pub data Given : Type 0 where
    nothing : Given
    word : Word → Given → Given
    number : ℕ → Given → Given
    moved : ℕ → Low → ℕ → Given → Given

  -- `put`, `fill`, `copy` and `copy_from` write a register from a bit on, as many bits as a width:
  -- of a word of 128 bits, of a constant, of a register from a place on, or of a register that a
  -- call leaves. `give` sets a variable. `branch` is an IF by its ways, `way`s with words of one
  -- bit and then `last`. `pick` is a CASE by its arms, `arm`s and then `stop`.
  pub data Script : Type 0 where
    stop : Script
    put : ℕ → ℕ → ℕ → Word → Script
    fill : ℕ → ℕ → ℕ → ℤ → Script
    copy : ℕ → ℕ → ℕ → ℕ → Low → Script
    copy_from : ℕ → ℕ → ℕ → Frame → ℕ → Low → Script
    give : ℕ → Word → Script
    both : Script → Script → Script
    branch : Script → Script
    way : Word → Script → Script → Script
    last : Script → Script
    pick : Word → Script → Script
    arm : ℕ → Script → Script → Script

abbrev pub width_of : Word → ℕ
width_of (constant w v) = w
width_of (slice r l w) = w
width_of (variable k) = 128
width_of (one op w k x) = w
width_of (two op w x y) = w
width_of (sel w c x y) = w
width_of (absolute x) = 128
width_of (shift_left x n) = 128
width_of (shift_right x n) = 128
width_of (block f x) = width_of x
