use Rattle.std.proofs.Common.{refl, sym}
use Rattle.std.specs.Prelude.{vec_items}
use Rattle.vg_machine.proofs.FirstPlaces.{notes_new}
use Rattle.vg_machine.proofs.named_entries.note.Goals as goal

pub returns : goal.returns
returns c = notes_new vec_items _ (λ x y. refl) c.args.places.now.entries c.insert.new.self.entries c.in_ok-key.key c.args.name.now c.args.place c.in_ok-key.ensures.items (sym c.if-contains_key.ensures) c.in_ok-insert.ensures.entries
