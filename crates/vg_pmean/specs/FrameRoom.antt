-- The room that the frames of a script need: how many are in use at once, and how much the greatest
-- ones hold.
use Rattle.std.specs.Prelude.{ℕ, ◌+◌, ◌≤◌, List, length, max}
use Rattle.vg_script.specs.Script.{Word, constant, slice, variable, one, two, sel, absolute, shift_left, shift_right, block, Low, at, held, Frame, frame, Given, nothing, word, number, moved, Script, stop, put, fill, copy, copy_from, give, both, branch, way, last, pick, arm}
use Rattle.vg_pmean.specs.declared.frame_room.FrameRoom.{FrameRoom}
use Rattle.vg_pmean.specs.Extent.{total}

abbrev pub no_room : FrameRoom
no_room = record { frames = 0; registers = 0; variables = 0; bits = 0 }

-- room for either
abbrev pub either : FrameRoom → FrameRoom → FrameRoom
either a b = record {
  frames = max a.frames b.frames;
  registers = max a.registers b.registers;
  variables = max a.variables b.variables;
  bits = max a.bits b.bits;
}

-- room for a frame of these registers and so many variables, and for what it needs inside
abbrev pub around : List ℕ → ℕ → FrameRoom → FrameRoom
around ws n inside = record {
  frames = inside.frames + 1;
  registers = max inside.registers (length ws);
  variables = max inside.variables n;
  bits = max inside.bits (total ws);
}

abbrev mutual
  pub word_room : Word → FrameRoom
  word_room (constant w v) = no_room
  word_room (slice r l w) = low_room l
  word_room (variable k) = no_room
  word_room (one op w k x) = word_room x
  word_room (two op w x y) = either (word_room x) (word_room y)
  word_room (sel w c x y) = either (word_room c) (either (word_room x) (word_room y))
  word_room (absolute x) = word_room x
  word_room (shift_left x n) = either (word_room x) (word_room n)
  word_room (shift_right x n) = either (word_room x) (word_room n)
  word_room (block f x) = frame_room f (word_room x)

  pub low_room : Low → FrameRoom
  low_room (at n) = no_room
  low_room (held x) = word_room x

  -- with what is looked at in the frame when its statements are done
  pub frame_room : Frame → FrameRoom → FrameRoom
  frame_room (frame ws n g s) answer =
      around ws n (either (given_room g) (either (script_room s) answer))

  pub given_room : Given → FrameRoom
  given_room nothing = no_room
  given_room (word x g) = either (word_room x) (given_room g)
  given_room (number n g) = given_room g
  given_room (moved r l w g) = either (low_room l) (given_room g)

  pub script_room : Script → FrameRoom
  script_room stop = no_room
  script_room (put r l w x) = word_room x
  script_room (fill r l w z) = no_room
  script_room (copy r l w q m) = low_room m
  script_room (copy_from r l w f q m) = frame_room f (low_room m)
  script_room (give k x) = word_room x
  script_room (both s t) = either (script_room s) (script_room t)
  script_room (branch ways) = script_room ways
  script_room (way x s ways) = either (word_room x) (either (script_room s) (script_room ways))
  script_room (last s) = script_room s
  script_room (pick x arms) = either (word_room x) (script_room arms)
  script_room (arm n s arms) = either (script_room s) (script_room arms)

-- so many frames of a room are enough for a need
pub record Suffices (need room : FrameRoom) (count : ℕ) : Type 0 where
  pub frames : need.frames ≤ count
  pub registers : need.registers ≤ room.registers
  pub variables : need.variables ≤ room.variables
  pub bits : need.bits ≤ room.bits
