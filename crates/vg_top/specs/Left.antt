-- What a run leaves: the memory, or an ending.
use Rattle.std.specs.Prelude.{◌≡◌, ℕ, List, Option, Some, None, Result, Ok, Err, Vec, if◌then◌else◌}
use Rattle.std.specs.Option.{option_and_then}
use Rattle.std.specs.declared.alloc.Global.{Global}
use Rattle.vg_loop_laws.specs.Loops.{Run, turns_asked}
use Rattle.vg_loops.specs.Near.{stay_near}
use Rattle.vg_top.specs.declared.ending.Ending.{Ending}
use Rattle.vg_top.specs.declared.ending.Ending.TheVariants.{Bindings, Trap}
use Rattle.vg_top.specs.Inputs.{InputLists}

-- the memory that is left, or a trap
abbrev pub memory_or_trap : Option (List ℕ) → Result (List ℕ) Ending
memory_or_trap (Some memory) = Ok memory
memory_or_trap None = Err Trap

-- what is left of the memory, where the parameters are bound
abbrev pub left_by : Run → List ℕ → Option InputLists → Result (List ℕ) Ending
left_by run memory (Some i) = memory_or_trap (run memory i.places i.args)
left_by run memory None = Err Bindings

-- the inputs of a loop, where no pointer is moved past 2 ^ 64 - 1 by all its turns
abbrev pub near_inputs : ℕ → List ℕ → InputLists → Option InputLists
near_inputs times steps i =
    if stay_near steps (turns_asked times i.args) i.places then Some i else None

abbrev pub loop_inputs : ℕ → List ℕ → Option InputLists → Option InputLists
loop_inputs times steps inputs = option_and_then (near_inputs times steps) inputs

-- the bytes of a vector are the memory
abbrev pub AreLeft : Vec ℕ Global → List ℕ → Type 0
AreLeft bytes memory = bytes.items ≡ memory
