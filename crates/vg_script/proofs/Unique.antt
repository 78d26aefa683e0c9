-- That a word or a script is formed can be shown in one way alone.
use Rattle.std.proofs.Common.{ℕ, List}
use Rattle.std.proofs.Props.{props}
use Rattle.vg_terms.specs.declared.term.OneOp.{OneOp}
use Rattle.vg_terms.specs.declared.term.OneOp.TheVariants.{Zext, Sext, Trunc, Lshr, Ashr}
use Rattle.vg_terms.specs.declared.term.TwoOp.{TwoOp}
use Rattle.vg_terms.specs.declared.term.TwoOp.TheVariants.{Add, Mul, And, Or, Xor, Smin, Smax, Umin, Umax, Eq, Slt, Ult, Cat}
use Rattle.vg_terms.specs.Term.{OneFits, TwoFits}
use Rattle.vg_script.specs.Script.{Word, constant, slice, variable, one, two, sel, absolute, shift_left, shift_right, block, width_of, Low, at, held, Frame, frame, Given, nothing, word, number, moved, Script, stop, put, fill, copy, copy_from, give, both, branch, way, last, pick, arm}
use Rattle.vg_script.specs.Formed.{Formed, LowFormed, FrameFormed, GivenFormed, ScriptFormed}

one_fits_once : (op : OneOp) (w k m : ℕ) → IsProp (OneFits op w k m)
one_fits_once Zext w k m = hlevel props
one_fits_once Sext w k m = hlevel props
one_fits_once Trunc w k m = hlevel props
one_fits_once Lshr w k m = hlevel props
one_fits_once Ashr w k m = hlevel props

two_fits_once : (op : TwoOp) (w m n : ℕ) → IsProp (TwoFits op w m n)
two_fits_once Add w m n = hlevel props
two_fits_once Mul w m n = hlevel props
two_fits_once And w m n = hlevel props
two_fits_once Or w m n = hlevel props
two_fits_once Xor w m n = hlevel props
two_fits_once Smin w m n = hlevel props
two_fits_once Smax w m n = hlevel props
two_fits_once Umin w m n = hlevel props
two_fits_once Umax w m n = hlevel props
two_fits_once Eq w m n = hlevel props
two_fits_once Slt w m n = hlevel props
two_fits_once Ult w m n = hlevel props
two_fits_once Cat w m n = hlevel props

mutual
  pub formed_once : (x : Word) → IsProp (Formed x)
  formed_once (constant w v) = hlevel props
  formed_once (slice r l w) = hlevel (props, low_formed_once l)
  formed_once (variable k) = hlevel props
  formed_once (one op w k x) = hlevel (props, one_fits_once op w k (width_of x), formed_once x)
  formed_once (two op w x y) = hlevel (props, two_fits_once op w (width_of x) (width_of y), formed_once x, formed_once y)
  formed_once (sel w c x y) = hlevel (props, formed_once c, formed_once x, formed_once y)
  formed_once (absolute x) = hlevel (props, formed_once x)
  formed_once (shift_left x n) = hlevel (props, formed_once x, formed_once n)
  formed_once (shift_right x n) = hlevel (props, formed_once x, formed_once n)
  formed_once (block f x) = hlevel (props, frame_formed_once f, formed_once x)

  pub low_formed_once : (l : Low) → IsProp (LowFormed l)
  low_formed_once (at n) = hlevel props
  low_formed_once (held x) = hlevel (props, formed_once x)

  pub frame_formed_once : (f : Frame) → IsProp (FrameFormed f)
  frame_formed_once (frame ws n g s) = hlevel (props, given_formed_once g, script_formed_once ws s)

  pub given_formed_once : (g : Given) → IsProp (GivenFormed g)
  given_formed_once nothing = hlevel props
  given_formed_once (word x g) = hlevel (props, formed_once x, given_formed_once g)
  given_formed_once (number n g) = given_formed_once g
  given_formed_once (moved r l w g) = hlevel (props, low_formed_once l, given_formed_once g)

  pub script_formed_once : (ws : List ℕ) (s : Script) → IsProp (ScriptFormed ws s)
  script_formed_once ws stop = hlevel props
  script_formed_once ws (put r l w x) = hlevel (props, formed_once x)
  script_formed_once ws (fill r l w z) = hlevel props
  script_formed_once ws (copy r l w q m) = hlevel (props, low_formed_once m)
  script_formed_once ws (copy_from r l w f q m) = hlevel (props, frame_formed_once f, low_formed_once m)
  script_formed_once ws (give k x) = hlevel (props, formed_once x)
  script_formed_once ws (both s t) = hlevel (props, script_formed_once ws s, script_formed_once ws t)
  script_formed_once ws (branch ways) = script_formed_once ws ways
  script_formed_once ws (way x s ways) = hlevel (props, formed_once x, script_formed_once ws s, script_formed_once ws ways)
  script_formed_once ws (last s) = script_formed_once ws s
  script_formed_once ws (pick x arms) = hlevel (props, formed_once x, script_formed_once ws arms)
  script_formed_once ws (arm n s arms) = hlevel (props, script_formed_once ws s, script_formed_once ws arms)
