-- What a script leaves of registers and variables.
use Rattle.std.specs.Prelude.{ℕ, ◌-◌, ◌*◌, ◌%◌, ◌^◌, List, [], ◌∷◌, get_or, set, min, replicate, nat_eq, nat_le, if◌then◌else◌}
use Rattle.vg_base.specs.Bits.{bits, num, signed_at}
use Rattle.vg_bits.specs.Range.{range, replaced}
use Rattle.vg_base.specs.Number.{residue, floor_shift}
use Rattle.vg_terms.specs.Value.{one_value, two_value}
use Rattle.vg_terms.specs.declared.term.TwoOp.TheVariants.{Smax, Mul}
use Rattle.vg_script.specs.Script.{Word, constant, slice, variable, one, two, sel, absolute, shift_left, shift_right, block, width_of, Low, at, held, Frame, frame, Given, nothing, word, number, moved, Script, stop, put, fill, copy, copy_from, give, both, branch, way, last, pick, arm}

-- the bits of each register, lowest first, and the number of each variable
pub record Cells : Type 0 where
  pub registers : List (List ℕ)
  pub variables : List ℕ

-- Registers of these widths as a body begins: the first have the low bits of these numbers, the
-- others are zeros.
abbrev pub entered : List ℕ → List ℕ → List (List ℕ)
entered [] ns = []
entered (w ∷ ws) [] = bits w 0 ∷ entered ws []
entered (w ∷ ws) (n ∷ ns) = bits w n ∷ entered ws ns

-- x or -x, whichever is the greater signed number
abbrev pub absolute_value : ℕ → ℕ
absolute_value x = two_value Smax 128 128 x (two_value Mul 128 128 x (2 ^ 128 - 1))

abbrev pub left_value : ℕ → ℕ → ℕ
left_value x n = if nat_le n 127 then (x * 2 ^ n) % 2 ^ 128 else 0

abbrev pub right_value : ℕ → ℕ → ℕ
right_value x n = residue 128 (floor_shift (signed_at 128 x) (min n 127))

-- so many bits of a register from a bit on become these bits
abbrev pub written : ℕ → ℕ → List ℕ → Cells → Cells
written r low new c = record {
  registers = set c.registers r (replaced low new (get_or c.registers r []));
  variables = c.variables;
}

-- the number of so many bits of a register from a bit on; past its end are zeros
abbrev pub bits_read : Cells → ℕ → ℕ → ℕ → ℕ
bits_read c r low w = num (range low w (get_or c.registers r []))

abbrev mutual
  pub word_value : Cells → Word → ℕ
  word_value c (constant w v) = v
  word_value c (slice r l w) = bits_read c r (low_value c l) w
  word_value c (variable k) = get_or c.variables k 0
  word_value c (one op w k x) = one_value op w k (width_of x) (word_value c x)
  word_value c (two op w x y) = two_value op w (width_of y) (word_value c x) (word_value c y)
  word_value c (sel w t x y) = if nat_eq (word_value c t) 1 then word_value c x else word_value c y
  word_value c (absolute x) = absolute_value (word_value c x)
  word_value c (shift_left x n) = left_value (word_value c x) (word_value c n)
  word_value c (shift_right x n) = right_value (word_value c x) (word_value c n)
  word_value c (block f x) = word_value (behind c f) x

  pub low_value : Cells → Low → ℕ
  low_value c (at n) = n
  low_value c (held x) = word_value c x

  -- the cells of a call after its statements
  pub behind : Cells → Frame → Cells
  behind c (frame ws n g s) =
      after s (record { registers = entered ws (numbers_given c g); variables = replicate n 0 })

  pub numbers_given : Cells → Given → List ℕ
  numbers_given c nothing = []
  numbers_given c (word x g) = word_value c x ∷ numbers_given c g
  numbers_given c (number n g) = n ∷ numbers_given c g
  numbers_given c (moved r l w g) = bits_read c r (low_value c l) w ∷ numbers_given c g

  pub after : Script → Cells → Cells
  after stop c = c
  after (put r l w x) c = written r l (bits w (word_value c x)) c
  after (fill r l w z) c = written r l (bits w (residue w z)) c
  after (copy r l w q m) c = written r l (bits w (bits_read c q (low_value c m) w)) c
  after (copy_from r l w f q m) c =
      written r l (bits w (bits_read (behind c f) q (low_value (behind c f) m) w)) c
  after (give k x) c =
      record { registers = c.registers; variables = set c.variables k (word_value c x) }
  after (both s t) c = after t (after s c)
  after (branch ways) c = after ways c
  after (way x s ways) c = if nat_eq (word_value c x) 1 then after s c else after ways c
  after (last s) c = after s c
  after (pick x arms) c = after_arm (word_value c x) arms c
  after (arm n s arms) c = c

  -- the first arm of this number
  pub after_arm : ℕ → Script → Cells → Cells
  after_arm v (arm n s arms) c = if nat_eq v n then after s c else after_arm v arms c
  after_arm v _ c = c
