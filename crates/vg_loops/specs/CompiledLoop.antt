-- What is compiled of a loop.
use Rattle.std.specs.Prelude.{◌≡◌, ℕ, ◌≤◌, Bool, List, length}
use Rattle.vg_catalog.specs.Called.{called_by, headers_of}
use Rattle.vg_catalog.specs.Entries.{Entry}
use Rattle.vg_compile.specs.Compiled.{IsCompiled}
use Rattle.vg_compile.specs.Described.{AreDescribed}
use Rattle.vg_looped.specs.declared.looped.Looped.{Looped}
use Rattle.vg_looped.specs.Looped.{IsLooped}
use Rattle.vg_loop_laws.specs.Limits.{turns_of}
use Rattle.vg_loop_laws.specs.Loops.{Loop, loop_meaning}
use Rattle.vg_loop_laws.specs.Unrolled.{unrolled}
use Rattle.vg_shapes.specs.Description.{Description}
use Rattle.vg_loops.specs.Inputs.{IsLoopInput, looped_meaning}

-- A block of as many turns as may be, which is what is compiled of the kernel of so many turns, with
-- more plans or without, and a rest, which is what is compiled of the kernel of one. They have a text
-- that keeps the rules. On
-- everything that the loop may be run on they leave the same memory, or trap where a turn traps.
pub record IsCompiledLoop
    (entries : List Entry) (set : ℕ) (l : Loop) (width : ℕ) (more : Bool) (looped : Looped)
    : Type 0 where
  pub turns : looped.turns ≡ turns_of l
  pub times : looped.times ≡ l.times
  pub steps : looped.steps ≡ l.steps
  pub few_steps : length looped.steps ≤ 16
  pub rules : IsLooped (headers_of entries) looped
  pub block : IsCompiled entries set (unrolled l (turns_of l)) width more looped.block
  pub rest : IsCompiled entries set l.kernel width more looped.rest
  pub means : (memory places args : List ℕ) → IsLoopInput l memory places args
      → looped_meaning (called_by entries) looped memory places args
      ≡ loop_meaning l memory places args

-- it is compiled of the loop, of whatever entries and set of extensions these are the descriptions
abbrev pub IsLoopBy : List Description → Loop → ℕ → Bool → Looped → Type 0
IsLoopBy ds l width more looped =
    (entries : List Entry) (set : ℕ) → AreDescribed entries set ds
    → IsCompiledLoop entries set l width more looped
