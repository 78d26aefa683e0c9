-- How many nodes words and scripts have.
use Rattle.std.specs.Prelude.{ℕ, ◌+◌, ◌-◌, ◌^◌, min}
use Rattle.vg_script.specs.Script.{Word, constant, slice, variable, one, two, sel, absolute, shift_left, shift_right, block, Low, at, held, Frame, frame, Given, nothing, word, number, moved, Script, stop, put, fill, copy, copy_from, give, both, branch, way, last, pick, arm}

abbrev mutual
  pub word_nodes : Word → ℕ
  word_nodes (constant w v) = 1
  word_nodes (slice r l w) = 1 + low_nodes l
  word_nodes (variable k) = 1
  word_nodes (one op w k x) = 1 + word_nodes x
  word_nodes (two op w x y) = 1 + word_nodes x + word_nodes y
  word_nodes (sel w c x y) = 1 + word_nodes c + word_nodes x + word_nodes y
  word_nodes (absolute x) = 1 + word_nodes x
  word_nodes (shift_left x n) = 1 + word_nodes x + word_nodes n
  word_nodes (shift_right x n) = 1 + word_nodes x + word_nodes n
  word_nodes (block f x) = 1 + frame_nodes f + word_nodes x

  pub low_nodes : Low → ℕ
  low_nodes (at n) = 0
  low_nodes (held x) = word_nodes x

  pub frame_nodes : Frame → ℕ
  frame_nodes (frame ws n g s) = given_nodes g + script_nodes s

  pub given_nodes : Given → ℕ
  given_nodes nothing = 0
  given_nodes (word x g) = 1 + word_nodes x + given_nodes g
  given_nodes (number n g) = 1 + given_nodes g
  given_nodes (moved r l w g) = 1 + low_nodes l + given_nodes g

  pub script_nodes : Script → ℕ
  script_nodes stop = 0
  script_nodes (put r l w x) = 1 + word_nodes x
  script_nodes (fill r l w z) = 1
  script_nodes (copy r l w q m) = 1 + low_nodes m
  script_nodes (copy_from r l w f q m) = 1 + low_nodes m + frame_nodes f
  script_nodes (give k x) = 1 + word_nodes x
  script_nodes (both s t) = 1 + script_nodes t + script_nodes s
  script_nodes (branch ways) = 1 + script_nodes ways
  script_nodes (way x s ways) = 1 + word_nodes x + script_nodes s + script_nodes ways
  script_nodes (last s) = 1 + script_nodes s
  script_nodes (pick x arms) = 1 + word_nodes x + script_nodes arms
  script_nodes (arm n s arms) = 1 + script_nodes s + script_nodes arms

-- a count that stands still at its type's end
abbrev pub counted : ℕ → ℕ → ℕ
counted count more = min (count + more) (2 ^ 64 - 1)
