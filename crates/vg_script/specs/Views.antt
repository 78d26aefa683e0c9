-- Words, scripts and instances, without where they lie in memory.
use Rattle.std.specs.Prelude.{ℕ, ℤ, pos, negsuc, Bool, List}
use Rattle.vg_script.specs.Script.{Word, Low, Frame, frame, Given, Script}
use Rattle.vg_script.specs.Script as pure
use Rattle.vg_script.specs.declared.script.Word as word
use Rattle.vg_script.specs.declared.script.Word.TheVariants as w
use Rattle.vg_script.specs.declared.script.Low as low
use Rattle.vg_script.specs.declared.script.Low.TheVariants as l
use Rattle.vg_script.specs.declared.script.Frame as call
use Rattle.vg_script.specs.declared.script.Given as given
use Rattle.vg_script.specs.declared.script.Given.TheVariants as g
use Rattle.vg_script.specs.declared.script.Script as script
use Rattle.vg_script.specs.declared.script.Script.TheVariants as s
use Rattle.vg_script.specs.declared.whole.Whole as whole
use Rattle.vg_script.specs.declared.whole_number.WholeNumber.{WholeNumber}
use Rattle.vg_script.specs.declared.whole_number.WholeNumber.TheVariants.{Natural, Negative}

abbrev pub number_of : WholeNumber → ℤ
number_of (Natural n) = pos n
number_of (Negative n) = negsuc n

abbrev mutual
  pub word_of : word.Word → Word
  word_of (w.Constant n v) = pure.constant n v
  word_of (w.Slice r l n) = pure.slice r (low_of l) n
  word_of (w.Variable k) = pure.variable k
  word_of (w.One' o n k p x) = pure.one o n k (word_of x)
  word_of (w.Two' o n p x q y) = pure.two o n (word_of x) (word_of y)
  word_of (w.Sel' n p c q x r y) = pure.sel n (word_of c) (word_of x) (word_of y)
  word_of (w.Absolute' p x) = pure.absolute (word_of x)
  word_of (w.ShiftLeft' p x q y) = pure.shift_left (word_of x) (word_of y)
  word_of (w.ShiftRight' p x q y) = pure.shift_right (word_of x) (word_of y)
  word_of (w.Block' p ws n g s q x) =
      pure.block (frame ws n (given_of g) (script_of s)) (word_of x)

  pub low_of : low.Low → Low
  low_of (l.At n) = pure.at n
  low_of (l.Held' p x) = pure.held (word_of x)

  pub given_of : given.Given → Given
  given_of g.Nothing = pure.nothing
  given_of (g.Word' p x q rest) = pure.word (word_of x) (given_of rest)
  given_of (g.Number' n p rest) = pure.number n (given_of rest)
  given_of (g.Moved' r l n p rest) = pure.moved r (low_of l) n (given_of rest)

  pub script_of : script.Script → Script
  script_of s.Stop = pure.stop
  script_of (s.Put' r l n p x) = pure.put r l n (word_of x)
  script_of (s.Fill r l n z) = pure.fill r l n (number_of z)
  script_of (s.Copy r l n q m) = pure.copy r l n q (low_of m)
  script_of (s.CopyFrom' r l n p ws k g s q m) =
      pure.copy_from r l n (frame ws k (given_of g) (script_of s)) q (low_of m)
  script_of (s.Give' k p x) = pure.give k (word_of x)
  script_of (s.Both' p x q y) = pure.both (script_of x) (script_of y)
  script_of (s.Branch' p x) = pure.branch (script_of x)
  script_of (s.Way' p c q x r y) = pure.way (word_of c) (script_of x) (script_of y)
  script_of (s.Last' p x) = pure.last (script_of x)
  script_of (s.Pick' p x q y) = pure.pick (word_of x) (script_of y)
  script_of (s.Arm' n p x q y) = pure.arm n (script_of x) (script_of y)

abbrev pub frame_of : call.Frame → Frame
frame_of f = frame f.widths f.variables (given_of f.given) (script_of f.script)

-- an operation written out for one immediate
pub record Whole : Type 0 where
  pub widths : List ℕ
  pub parameters : ℕ
  pub variables : ℕ
  pub result : ℕ
  pub script : Script
  pub is_dynamic : Bool

abbrev pub whole_of : whole.Whole → Whole
whole_of i = record {
  widths = i.widths;
  parameters = i.parameters;
  variables = i.variables;
  result = i.result;
  script = script_of i.script;
  is_dynamic = i.is_dynamic;
}
