-- How often loops turn.
use Rattle.std.specs.Prelude.{◌≡◌, ℕ, ◌≤◌, List, length, Some}
use Rattle.vg_loop_laws.specs.Loops.{Loop, turns_asked, loop_meaning}
use Rattle.vg_loops.specs.Formed.{IsLoop}

-- where a loop leaves a memory, and does not trap, it has turned at most as often as the memory has bytes
abbrev pub LoopsEndWithinMemory : Type 0
LoopsEndWithinMemory =
    (l : Loop) (memory places args left : List ℕ) → IsLoop l → length places ≡ length l.steps
    → loop_meaning l memory places args ≡ Some left
    → turns_asked l.times args ≤ length memory
