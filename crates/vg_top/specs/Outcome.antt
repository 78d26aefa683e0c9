-- What is to be written.
use Rattle.std.specs.Prelude.{◌≡◌, ℕ, List, Vec}
use Rattle.std.specs.declared.alloc.Global.{Global}
use Rattle.vg_trial_line.specs.TrialLine.{IsTrialLine}
use Rattle.vg_top.specs.Answer.{Source, LoopSource, Pair, Answer, GuardedAnswer, LoopedAnswer, GuardedLoopAnswer, Explanation, SameAnswer}
use Rattle.vg_top.specs.Trial.{Trial}

pub data Outcome : Type 0 where
  program_for : Source → Outcome
  guarded_for : Source → Outcome
  looped_for : LoopSource → Outcome
  guarded_loop_for : LoopSource → Outcome
  plan_for : Source → Outcome
  memory_left : List ℕ → Outcome
  listing : List ℕ → Outcome
  line_on : Trial → Outcome
  same_for : Pair → Outcome

-- the text of a program, of a guarded one, of a looped one or of a guarded loop that means the kernel or
-- the loop, the lines on a plan, the memory, the lines on instances, the line on the trial, or that a
-- program means a kernel
abbrev pub IsAnswer : Outcome → List ℕ → Type 0
IsAnswer (program_for s) bytes = Answer s bytes
IsAnswer (guarded_for s) bytes = GuardedAnswer s bytes
IsAnswer (looped_for s) bytes = LoopedAnswer s bytes
IsAnswer (guarded_loop_for s) bytes = GuardedLoopAnswer s bytes
IsAnswer (plan_for s) bytes = Explanation s bytes
IsAnswer (memory_left memory) bytes = bytes ≡ memory
IsAnswer (listing lines) bytes = bytes ≡ lines
IsAnswer (line_on t) bytes = IsTrialLine t.entries t.number bytes
IsAnswer (same_for q) bytes = SameAnswer q bytes

abbrev pub VecAnswers : Vec ℕ Global → Outcome → Type 0
VecAnswers bytes outcome = IsAnswer outcome bytes.items
