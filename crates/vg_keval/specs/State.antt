-- Memory and the numbers of names as one state.
use Rattle.std.specs.Prelude.{ℕ, List}
use Rattle.vg_kernel.specs.Meaning.{State}

abbrev pub state_of : List ℕ → List ℕ → State
state_of memory numbers = record { memory = memory; numbers = numbers }
