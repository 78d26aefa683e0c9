use Rattle.std.proofs.Common.{◌≡◌, refl, ◌∙◌}
use Rattle.std.specs.FinMap.{insert}
use Rattle.vg_outside.specs.Held.{held_by}
use Rattle.vg_outside.proofs.Names.{held_by-insert}
use Rattle.vg_outside.proofs.memory_shelf.MemShelf.put.Goals as goal

pub returns-clause-held : goal.returns-clause-held
returns-clause-held c =
    let added = held_by-insert c.self.inside.files c.insert.new.self c.in_ok-name.name c.in_ok-bytes.bytes c.in_ok-insert.ensures.updates in
    let named : held_by c.insert.new.self.entries ≡ insert (held_by c.self.inside.files.entries) c.args.name.now c.args.bytes.now =
    added ∙ (λ i. insert (held_by c.self.inside.files.entries) (c.in_ok-name.ensures.ok i) (c.in_ok-bytes.ensures i)) in
    rw (← c.self.view_is) (rw named refl)
