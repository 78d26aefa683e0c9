-- Counted loops: a kernel that is run again and again, its pointers moved on by their steps from turn to turn.
use Rattle.std.specs.Prelude.{ℕ, zero, suc, ◌+◌, ◌*◌, ◌/◌, ◌%◌, List, [], ◌∷◌, Option, Some, slice_index}
use Rattle.vg_base.specs.Trap.{◌>>=◌}
use Rattle.vg_kernel.specs.Tree.{Tree}
use Rattle.vg_kernel.specs.Meaning.{meaning}

-- A loop: the kernel of a turn, the integer parameter that says how many turns there are, by its number
-- among the integers, and for each pointer the bytes by which a turn moves it on.
pub record Loop : Type 0 where
  pub kernel : Tree
  pub times : ℕ
  pub steps : List ℕ

-- the places of the pointers after so many turns
abbrev pub places_at : List ℕ → List ℕ → ℕ → List ℕ
places_at [] places t = places
places_at (s ∷ ss) [] t = []
places_at (s ∷ ss) (p ∷ ps) t = (p + t * s) ∷ places_at ss ps t

-- what a turn of this number leaves of a memory; None is a trap
abbrev pub Turn : Type 0
Turn = ℕ → List ℕ → Option (List ℕ)

-- so many turns, the first of which has this number; a trap ends them
unfoldable pub turns : Turn → ℕ → ℕ → List ℕ → Option (List ℕ)
turns turn zero t memory = Some memory
turns turn (suc n) t memory = turn t memory >>= turns turn n (t + 1)

-- a kernel or a program: what it leaves of a memory, with these places and arguments
abbrev pub Run : Type 0
Run = List ℕ → List ℕ → List ℕ → Option (List ℕ)

-- a turn, where the pointers begin at these places and each turn moves them on by these steps
abbrev pub turn_of : Run → List ℕ → List ℕ → List ℕ → Turn
turn_of run steps places args t memory = run memory (places_at steps places t) args

-- a block, where each block moves them on by so many turns
abbrev pub block_of : ℕ → Run → List ℕ → List ℕ → List ℕ → Turn
block_of size run steps places args k memory = run memory (places_at steps places (size * k)) args

-- how many turns the arguments ask for
abbrev pub turns_asked : ℕ → List ℕ → ℕ
turns_asked times args = slice_index args times

-- the memory that a loop leaves, or None where a turn traps
abbrev pub loop_meaning : Loop → Run
loop_meaning l memory places args =
    turns (turn_of (meaning l.kernel) l.steps places args) (turns_asked l.times args) 0 memory

-- the memory that blocks leave, and then the turns that are left over, of so many turns
abbrev pub both_meaning : ℕ → ℕ → List ℕ → Run → Run → Run
both_meaning size n steps block rest memory places args =
    turns (block_of size block steps places args) (n / size) 0 memory >>=
    turns (turn_of rest steps places args) (n % size) (size * (n / size))

-- and of the turns that are asked for
abbrev pub blocks_meaning : ℕ → ℕ → List ℕ → Run → Run → Run
blocks_meaning times size steps block rest memory places args =
    both_meaning size (turns_asked times args) steps block rest memory places args
