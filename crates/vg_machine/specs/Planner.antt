-- What is made ready while the lines of a program are looked at.
use Rattle.std.specs.Prelude.{ℕ, ◌*◌, ◌/◌, ◌==◌, ◌&&◌, Bool, List, map, nat_le}
use Rattle.vg_catalog.specs.Entries.{Entry, entry_of}
use Rattle.vg_machine.specs.declared.planner.Planner as code
use Rattle.vg_machine.specs.ReadyInstance.{Instances, AreKept, AreFound, kept_of}

-- the entries that may be called, and what is made ready of them so far
abbrev pub planned_of : code.Planner → Instances
planned_of p = record { entries = map entry_of p.entries.entries.now; kept = map kept_of p.kept.items }

-- whether a machine can pass so many registers, and keep a result of so many bits
abbrev pub has_room : ℕ → ℕ → Bool
has_room count bits = nat_le count 4 && (nat_le bits 512 && bits / 8 * 8 == bits)

-- all that is kept answers what its entry means, and is found in the table
abbrev pub IsSound : code.Planner → Type 0
IsSound p =
    AreKept (planned_of p).entries (planned_of p).kept
    × AreFound p.places.entries (planned_of p).kept
