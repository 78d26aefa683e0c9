-- What is compiled of a loop with guards.
use Rattle.std.specs.Prelude.{◌≡◌, ℕ, ◌≤◌, Bool, List, length}
use Rattle.vg_catalog.specs.Called.{called_by, headers_of}
use Rattle.vg_catalog.specs.Entries.{Entry}
use Rattle.vg_compile.specs.Compiled.{IsCompiled}
use Rattle.vg_compile.specs.Described.{AreDescribed}
use Rattle.vg_guard.specs.Compiled.{IsCompiledGuarded}
use Rattle.vg_guarded_loop.specs.declared.guarded_loop.GuardedLoop.{GuardedLoop}
use Rattle.vg_guarded_loop.specs.GuardedLoop.{IsGuardedLoop}
use Rattle.vg_loop_laws.specs.Limits.{turns_of}
use Rattle.vg_loop_laws.specs.Loops.{Loop, loop_meaning}
use Rattle.vg_loop_laws.specs.Unrolled.{unrolled}
use Rattle.vg_loops.specs.Inputs.{IsLoopInput}
use Rattle.vg_program.specs.Meaning.{Instructions}
use Rattle.vg_shapes.specs.Description.{Description}
use Rattle.vg_loop_guard.specs.Meaning.{guarded_loop_meaning}

-- A guarded loop means a loop: on everything that the loop may be run on, in each layout in which the
-- accesses of all turns keep what the kernel itself says of `noalias`, it leaves the same memory, or
-- traps where a turn traps.
abbrev pub GuardedLoopMeans : Instructions → GuardedLoop → Loop → Type 0
GuardedLoopMeans called g l =
    (memory places args : List ℕ) → IsLoopInput l memory places args
    → guarded_loop_meaning called g memory places args ≡ loop_meaning l memory places args

-- The block has as many turns as may be, and is what is compiled with guards of the kernel of so many
-- turns; the rest is what is compiled of the kernel of one; with more plans or without. They have a
-- text that keeps the rules, and the whole means the loop.
pub record IsCompiledGuardedLoop
    (entries : List Entry) (set : ℕ) (l : Loop) (width : ℕ) (more : Bool) (g : GuardedLoop)
    : Type 0 where
  pub turns : g.turns ≡ turns_of l
  pub times : g.times ≡ l.times
  pub steps : g.steps ≡ l.steps
  pub few_steps : length g.steps ≤ 16
  pub rules : IsGuardedLoop (headers_of entries) g
  pub block : IsCompiledGuarded entries set (unrolled l (turns_of l)) width more g.block
  pub rest : IsCompiled entries set l.kernel width more g.rest
  pub means : GuardedLoopMeans (called_by entries) g l

-- it is compiled of the loop, of whatever entries and set of extensions these are the descriptions
abbrev pub IsGuardedLoopBy : List Description → Loop → ℕ → Bool → GuardedLoop → Type 0
IsGuardedLoopBy ds l width more g =
    (entries : List Entry) (set : ℕ) → AreDescribed entries set ds
    → IsCompiledGuardedLoop entries set l width more g
