use Rattle.std.proofs.Common.{take, map}
use Rattle.std.specs.Prelude.{vec_items}
use Rattle.vg_catalog.specs.Entries.{entry_of}
use Rattle.vg_machine.specs.FirstPlaces.{AreFirst}
use Rattle.vg_machine.proofs.named_entries.first_places.Given as goal

abbrev pub invariant-entries : goal.invariant-entries
invariant-entries l = AreFirst vec_items (map entry_of (take l.place l.entries)) l.places.entries
