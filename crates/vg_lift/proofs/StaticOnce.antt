-- That a script is static can be shown in one way alone.
use Rattle.std.proofs.Props.{props}
use Rattle.vg_script.specs.Script.{Word, constant, slice, variable, one, two, sel, absolute, shift_left, shift_right, block, Low, at, held, Frame, frame, Given, nothing, word, number, moved, Script, stop, put, fill, copy, copy_from, give, both, branch, way, last, pick, arm}
use Rattle.vg_range_laws.specs.Static.{IsPlace, IsStaticWord, IsStaticFrame, IsStaticGiven, IsStatic}

place_once : (l : Low) → IsProp (IsPlace l)
place_once (at n) = hlevel props
place_once (held x) = hlevel props

mutual
  word_once : (x : Word) → IsProp (IsStaticWord x)
  word_once (constant w v) = hlevel props
  word_once (slice r l w) = place_once l
  word_once (variable k) = hlevel props
  word_once (one op w k x) = word_once x
  word_once (two op w x y) = hlevel (props, word_once x, word_once y)
  word_once (sel w c x y) = hlevel (props, word_once c, word_once x, word_once y)
  word_once (absolute x) = word_once x
  word_once (shift_left x n) = hlevel props
  word_once (shift_right x n) = hlevel props
  word_once (block f x) = hlevel (props, frame_once f, word_once x)

  frame_once : (f : Frame) → IsProp (IsStaticFrame f)
  frame_once (frame ws n g s) = hlevel (props, given_once g, static_once s)

  given_once : (g : Given) → IsProp (IsStaticGiven g)
  given_once nothing = hlevel props
  given_once (word x g) = hlevel (props, word_once x, given_once g)
  given_once (number n g) = given_once g
  given_once (moved r l w g) = hlevel (props, place_once l, given_once g)

  pub static_once : (s : Script) → IsProp (IsStatic s)
  static_once stop = hlevel props
  static_once (put r l w x) = word_once x
  static_once (fill r l w z) = hlevel props
  static_once (copy r l w q m) = place_once m
  static_once (copy_from r l w f q m) = hlevel (props, frame_once f, place_once m)
  static_once (give k x) = word_once x
  static_once (both s t) = hlevel (props, static_once s, static_once t)
  static_once (branch ways) = static_once ways
  static_once (way x s ways) = hlevel (props, word_once x, static_once s, static_once ways)
  static_once (last s) = static_once s
  static_once (pick x arms) = hlevel (props, word_once x, static_once arms)
  static_once (arm n s arms) = hlevel (props, static_once s, static_once arms)
