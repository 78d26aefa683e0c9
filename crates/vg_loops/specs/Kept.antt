-- What no run changes of what it is run in.
use Rattle.std.specs.Prelude.{ℕ}
use Rattle.vg_machine.specs.ReadyInstance.{Loaded}

-- the room of a kernel, by the borrow of it and how many numbers it holds, a program with the entries that it
-- may call, or two of those, each by the borrow of what holds it
pub data Kept : Type 0 where
  room : (borrow numbers : ℕ) → Kept
  loaded : Loaded → Kept
  both : (borrow other : ℕ) → (first second : Loaded) → Kept
