-- The files of a map from texts.
use Rattle.std.specs.Prelude.{ℕ, List, map}
use Rattle.std.specs.FinMap.{from_entries}
use Rattle.std.specs.String.{string_bytes}
use Rattle.std.specs.declared.string.String.{String}
use Rattle.std.specs.declared.alloc.Global.{Global}
use Rattle.vg_outside.specs.Shelf.{Held}

-- the files of these entries
abbrev pub held_by : List (String Global × List ℕ) → Held
held_by entries = from_entries (map (λ e. (string_bytes e.0, e.1)) entries)
