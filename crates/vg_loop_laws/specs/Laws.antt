-- The laws of counted loops.
use Rattle.std.specs.Prelude.{◌≡◌, ℕ, [], ◌∷◌, ◌+◌, ◌*◌, ◌/◌, ◌%◌, ◌<◌, ◌≤◌, List, length, Contains}
use Rattle.vg_base.specs.Trap.{◌>>=◌}
use Rattle.vg_kernel.specs.Cost.{scalar_cost}
use Rattle.vg_kernel.specs.Layout.{Respects}
use Rattle.vg_kernel.specs.Meaning.{meaning}
use Rattle.vg_kernel.specs.WellFormed.{pointers, IsWellFormed}
use Rattle.vg_loop_laws.specs.Loops.{Loop, Run, Turn, places_at, turns, turn_of, turns_asked, loop_meaning, blocks_meaning}
use Rattle.vg_loop_laws.specs.Unrolled.{unrolled}
use Rattle.vg_loop_laws.specs.Inputs.{Agrees, LoopRespects, IsLoopLaid}
use Rattle.vg_loop_laws.specs.Limits.{KeepsLimits, turns_of}

-- each pointer has a step
abbrev pub HasSteps : Loop → Type 0
HasSteps l = length l.steps ≡ length (pointers l.kernel.params)

-- the kernel of so many turns leaves what the turns leave one by one, and traps where they do
abbrev pub UnrolledAreTurns : Type 0
UnrolledAreTurns =
    (l : Loop) (n : ℕ) (memory places args : List ℕ) → length places ≡ length l.steps
    → meaning (unrolled l n) memory places args
    ≡ turns (turn_of (meaning l.kernel) l.steps places args) n 0 memory

-- blocks of so many turns, and then the turns that are left over, are the turns one by one
abbrev pub BlocksAndRestAreTurns : Type 0
BlocksAndRestAreTurns =
    (turn : Turn) (size n : ℕ) (memory : List ℕ) → 0 < size
    → (turns (λ k. turns turn size (size * k)) (n / size) 0 memory >>=
    turns turn (n % size) (size * (n / size)))
    ≡ turns turn n 0 memory

-- where all turns keep what `noalias` says, the kernel of some of them keeps it at its moved places
abbrev pub BlocksRespect : Type 0
BlocksRespect =
    (l : Loop) (places : List ℕ) (n size k : ℕ) → length places ≡ length l.steps
    → LoopRespects l n places → k + size ≤ n → Respects (unrolled l size) (places_at l.steps places k)

-- blocks that mean the kernel of so many turns, and a rest that means the kernel of one, mean the loop
abbrev pub BlocksMeanLoop : Type 0
BlocksMeanLoop =
    (l : Loop) (size : ℕ) (block rest : Run) (args : List ℕ) → HasSteps l → 0 < size
    → Agrees block (unrolled l size) args → Agrees rest l.kernel args
    → (memory places : List ℕ) → IsLoopLaid l (turns_asked l.times args) memory places
    → blocks_meaning l.times size l.steps block rest memory places args
    ≡ loop_meaning l memory places args

-- the kernel of so many turns that keeps the limits is well formed
abbrev pub UnrolledIsWellFormed : Type 0
UnrolledIsWellFormed =
    (l : Loop) (n : ℕ) → IsWellFormed l.kernel → KeepsLimits l n → IsWellFormed (unrolled l n)

-- it costs so many times what a turn costs
abbrev pub UnrolledCosts : Type 0
UnrolledCosts = (l : Loop) (n : ℕ) → scalar_cost (unrolled l n) ≡ n * scalar_cost l.kernel

-- the kernel of one turn is the kernel of the loop
abbrev pub OneTurnIsTheKernel : Type 0
OneTurnIsTheKernel = (l : Loop) → unrolled l 1 ≡ l.kernel

-- fewer turns than some that keep the limits keep them
abbrev pub FewerKeepLimits : Type 0
FewerKeepLimits =
    (l : Loop) (n most : ℕ) → IsWellFormed l.kernel → KeepsLimits l most → 1 ≤ n → n ≤ most → KeepsLimits l n

-- so many turns keep the limits, and of those that a block may have no more do
pub record AreMost (l : Loop) (n : ℕ) : Type 0 where
  pub keep : KeepsLimits l n
  pub listed : Contains (16 ∷ 8 ∷ 4 ∷ 2 ∷ 1 ∷ []) n
  pub most : (k : ℕ) → Contains (16 ∷ 8 ∷ 4 ∷ 2 ∷ 1 ∷ []) k → KeepsLimits l k → k ≤ n

-- the turns of a block are the most
abbrev pub TurnsAreMost : Type 0
TurnsAreMost = (l : Loop) → IsWellFormed l.kernel → AreMost l (turns_of l)
