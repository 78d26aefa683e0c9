-- The lines on all instances of a file.
use Rattle.std.specs.Prelude.{ℕ, List}
use Rattle.std.specs.List.{flat_map}
use Rattle.vg_pseudo.specs.declared.header.Header.{Header}
use Rattle.vg_pseudo.specs.Tree.{Operation}
use Rattle.vg_lift.specs.Instances.{instance_lanes}
use Rattle.vg_lanes.specs.Listing.{instance_text}
use Rattle.vg_catalog.specs.Entries.{Entry}
use Rattle.vg_entry_lanes.specs.Immediates.{immediates_of}

-- the lines on the instance of an entry for an immediate
abbrev pub lines_of : Header → Operation → ℕ → List ℕ
lines_of h o imm = instance_text h imm (instance_lanes h o imm)

-- those on all its instances, by rising immediate
abbrev pub entry_text : Entry → List ℕ
entry_text e = flat_map (lines_of e.header e.operation) (immediates_of e.header.imm)

-- one entry after the other
abbrev pub entries_text : List Entry → List ℕ
entries_text entries = flat_map entry_text entries
