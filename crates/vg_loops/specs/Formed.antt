-- The rules on a loop that is there as data.
use Rattle.std.specs.Prelude.{◌≡◌, ℕ, ◌<◌, ◌≤◌, length, IsTrue}
use Rattle.std.specs.List.{AllByRecursion}
use Rattle.vg_kernel.specs.WellFormed.{integer_widths, IsWellFormed}
use Rattle.vg_loop_laws.specs.Laws.{HasSteps}
use Rattle.vg_loop_laws.specs.Loops.{Loop}
use Rattle.vg_loops.specs.Reader.{stores_moving}

-- its kernel is well formed, each pointer has a step of at most 65,536, the turns are counted by an
-- integer parameter, and a store goes through a pointer that moves
pub record IsLoop (l : Loop) : Type 0 where
  pub kernel : IsWellFormed l.kernel
  pub steps : HasSteps l
  pub small : AllByRecursion (λ s. s ≤ 65536) l.steps
  pub times : l.times < length (integer_widths l.kernel.params)
  pub moving : IsTrue (stores_moving l.steps l.kernel.statements)
