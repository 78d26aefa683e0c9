-- When words and scripts keep their widths, and what scripts write lies inside registers of these
-- widths. What is read past the end of a register is zeros.
use Rattle.std.specs.Prelude.{◌≡◌, ℕ, ◌+◌, ◌<◌, ◌≤◌, ◌^◌, List, get_or}
use Rattle.vg_terms.specs.Term.{IsWidth, OneFits, TwoFits}
use Rattle.vg_script.specs.Script.{Word, constant, slice, variable, one, two, sel, absolute, shift_left, shift_right, block, width_of, Low, at, held, Frame, frame, Given, nothing, word, number, moved, Script, stop, put, fill, copy, copy_from, give, both, branch, way, last, pick, arm}

abbrev pub frame_widths : Frame → List ℕ
frame_widths (frame ws n g s) = ws

abbrev mutual
  pub Formed : Word → Type 0
  Formed (constant w v) = IsWidth w × (v < 2 ^ w)
  Formed (slice r l w) = IsWidth w × LowFormed l
  Formed (variable k) = Unit {0}
  Formed (one op w k x) = IsWidth w × OneFits op w k (width_of x) × Formed x
  Formed (two op w x y) =
      IsWidth w × TwoFits op w (width_of x) (width_of y) × Formed x × Formed y
  Formed (sel w c x y) =
      IsWidth w × ((width_of c ≡ 1) × (width_of x ≡ w) ×
      (width_of y ≡ w)) × Formed c × Formed x × Formed y
  Formed (absolute x) = (width_of x ≡ 128) × Formed x
  Formed (shift_left x n) = (width_of x ≡ 128) × (width_of n ≡ 128) × Formed x × Formed n
  Formed (shift_right x n) = (width_of x ≡ 128) × (width_of n ≡ 128) × Formed x × Formed n
  Formed (block f x) = FrameFormed f × Formed x

  -- of a place that a word says its width is known
  pub LowFormed : Low → Type 0
  LowFormed (at n) = Unit {0}
  LowFormed (held x) = (width_of x ≡ 128) × Formed x

  pub FrameFormed : Frame → Type 0
  FrameFormed (frame ws n g s) = GivenFormed g × ScriptFormed ws s

  pub GivenFormed : Given → Type 0
  GivenFormed nothing = Unit {0}
  GivenFormed (word x g) = (width_of x ≡ 128) × Formed x × GivenFormed g
  GivenFormed (number n g) = GivenFormed g
  GivenFormed (moved r l w g) = LowFormed l × GivenFormed g

  pub ScriptFormed : List ℕ → Script → Type 0
  ScriptFormed ws stop = Unit {0}
  ScriptFormed ws (put r l w x) =
      IsWidth w × (l + w ≤ get_or ws r 0) × (width_of x ≡ 128) × Formed x
  ScriptFormed ws (fill r l w z) = (0 < w) × (l + w ≤ get_or ws r 0)
  ScriptFormed ws (copy r l w q m) = (0 < w) × (l + w ≤ get_or ws r 0) × LowFormed m
  ScriptFormed ws (copy_from r l w f q m) =
      (0 < w) × (l + w ≤ get_or ws r 0) × FrameFormed f × LowFormed m
  ScriptFormed ws (give k x) = (width_of x ≡ 128) × Formed x
  ScriptFormed ws (both s t) = ScriptFormed ws s × ScriptFormed ws t
  ScriptFormed ws (branch ways) = ScriptFormed ws ways
  ScriptFormed ws (way x s ways) =
      (width_of x ≡ 1) × Formed x × ScriptFormed ws s × ScriptFormed ws ways
  ScriptFormed ws (last s) = ScriptFormed ws s
  ScriptFormed ws (pick x arms) = (width_of x ≡ 128) × Formed x × ScriptFormed ws arms
  ScriptFormed ws (arm n s arms) = ScriptFormed ws s × ScriptFormed ws arms
