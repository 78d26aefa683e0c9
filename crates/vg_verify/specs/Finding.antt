-- Where the bits of an event are found: each event has those that it was given first.
use Rattle.std.specs.Prelude.{◌≡◌, ℕ, nat_eq, List, Option, map}
use Rattle.std.specs.Option.{option_map}
use Rattle.std.specs.Map.{lookup}
use Rattle.vg_lift.specs.Gather.{Bit}
use Rattle.vg_forms.specs.declared.run.Run.{Run}
use Rattle.vg_forms.specs.Runs.{bits_in}

abbrev pub found : {V : Type 0} → List (ℕ × V) → ℕ → Option V
found table e = lookup (nat_eq e) table

-- the table has for each event what stands first for it among pairs
abbrev pub HasFirst : List (ℕ × List Run) → List (ℕ × List Bit) → Type 0
HasFirst table pairs = (e : ℕ) → option_map bits_in (found table e) ≡ found pairs e
