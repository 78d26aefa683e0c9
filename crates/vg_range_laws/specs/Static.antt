-- Words and scripts in which no slice and no shift depends on data: those of an instance that has
-- lanes.
use Rattle.vg_script.specs.Script.{Word, constant, slice, variable, one, two, sel, absolute, shift_left, shift_right, block, Low, at, held, Frame, frame, Given, nothing, word, number, moved, Script, stop, put, fill, copy, copy_from, give, both, branch, way, last, pick, arm}

abbrev pub IsPlace : Low → Type 0
IsPlace (at n) = Unit {0}
IsPlace (held x) = ⊥

abbrev mutual
  pub IsStaticWord : Word → Type 0
  IsStaticWord (constant w v) = Unit {0}
  IsStaticWord (slice r l w) = IsPlace l
  IsStaticWord (variable k) = Unit {0}
  IsStaticWord (one op w k x) = IsStaticWord x
  IsStaticWord (two op w x y) = IsStaticWord x × IsStaticWord y
  IsStaticWord (sel w c x y) = IsStaticWord c × IsStaticWord x × IsStaticWord y
  IsStaticWord (absolute x) = IsStaticWord x
  IsStaticWord (shift_left x n) = ⊥
  IsStaticWord (shift_right x n) = ⊥
  IsStaticWord (block f x) = IsStaticFrame f × IsStaticWord x

  pub IsStaticFrame : Frame → Type 0
  IsStaticFrame (frame ws n g s) = IsStaticGiven g × IsStatic s

  pub IsStaticGiven : Given → Type 0
  IsStaticGiven nothing = Unit {0}
  IsStaticGiven (word x g) = IsStaticWord x × IsStaticGiven g
  IsStaticGiven (number n g) = IsStaticGiven g
  IsStaticGiven (moved r l w g) = IsPlace l × IsStaticGiven g

  pub IsStatic : Script → Type 0
  IsStatic stop = Unit {0}
  IsStatic (put r l w x) = IsStaticWord x
  IsStatic (fill r l w z) = Unit {0}
  IsStatic (copy r l w q m) = IsPlace m
  IsStatic (copy_from r l w f q m) = IsStaticFrame f × IsPlace m
  IsStatic (give k x) = IsStaticWord x
  IsStatic (both s t) = IsStatic s × IsStatic t
  IsStatic (branch ways) = IsStatic ways
  IsStatic (way x s ways) = IsStaticWord x × IsStatic s × IsStatic ways
  IsStatic (last s) = IsStatic s
  IsStatic (pick x arms) = IsStaticWord x × IsStatic arms
  IsStatic (arm n s arms) = IsStatic s × IsStatic arms
