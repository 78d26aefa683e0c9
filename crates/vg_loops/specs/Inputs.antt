-- What a loop may be run on, and what a looped text leaves.
use Rattle.std.specs.Prelude.{◌≡◌, ℕ, ◌<◌, ◌^◌, List, length}
use Rattle.std.specs.List.{AllZip}
use Rattle.vg_kernel.specs.WellFormed.{pointers}
use Rattle.vg_compile.specs.Means.{widths}
use Rattle.vg_program.specs.Meaning.{Instructions, meaning}
use Rattle.vg_looped.specs.declared.looped.Looped.{Looped}
use Rattle.vg_loop_laws.specs.Inputs.{AreBytes, StayNear, LoopRespects}
use Rattle.vg_loop_laws.specs.Loops.{Loop, Run, turns_asked, blocks_meaning}

-- What a loop may be run on: any memory, places that are below 2^64 after all turns as well, any
-- numbers of their widths, so that the accesses of all turns keep what `noalias` says.
pub record IsLoopInput (l : Loop) (memory places args : List ℕ) : Type 0 where
  pub bytes : AreBytes memory
  pub pointers : length places ≡ length (pointers l.kernel.params)
  pub near : StayNear l.steps (turns_asked l.times args) places
  pub integers : AllZip (λ w n. n < 2 ^ w) (widths l.kernel) args
  pub layout : LoopRespects l (turns_asked l.times args) places

-- the memory that a looped text leaves: its blocks, and then the turns that are left over
abbrev pub looped_meaning : Instructions → Looped → Run
looped_meaning called l =
    blocks_meaning l.times l.turns l.steps (meaning called l.block) (meaning called l.rest)
