use Rattle.std.proofs.Common.{◌≡◌, List, ℕ, sym, ap, subst, ◌∙◌, take, map}
use Rattle.std.specs.Prelude.{vec_items}
use Rattle.vg_pseudo.specs.declared.header.Header.{Header}
use Rattle.vg_catalog.specs.Entries.{Entry, entry_of}
use Rattle.vg_machine.specs.FirstPlaces.{AreFirst}
use Rattle.vg_machine.proofs.FirstPlaces.{first_more, mapped_more, mapped_long}
use Rattle.vg_machine.proofs.named_entries.first_places.Goals as goal

pub entries-preserved : goal.entries-preserved
entries-preserved c =
    let all = c.args.entries.now in
    let place = c.entries.place in
    let entry = c.index-entries-place.result in
    let name = c.bytes.ensures ∙ ap (λ (h : Header). h.name) c.header.ensures.header in
    let more = first_more vec_items (map entry_of (take place all)) (entry_of entry) c.entries.places.entries c.note.new.places.entries c.bytes.result.now place c.entries.invariant c.in_ok-note.ensures name (mapped_long entry_of all place c.entries-test.true) in
    subst (λ (es : List Entry). AreFirst vec_items es c.note.new.places.entries) (sym (mapped_more entry_of all place entry c.entries-test.true c.index-entries-place.is)) more
