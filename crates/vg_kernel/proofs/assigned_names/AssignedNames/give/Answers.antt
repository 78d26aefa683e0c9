use Rattle.std.proofs.Common.{◌≡◌, None, refl, ap, ◌∙◌}
use Rattle.std.specs.Prelude.{vec_items}
use Rattle.vg_kernel.specs.Names.{assigned_named}
use Rattle.vg_kernel.proofs.NamesFound.{goes_last, listed}
use Rattle.vg_kernel.proofs.assigned_names.AssignedNames.give.Goals as goal

pub returns-clause-ok : goal.returns-clause-ok
returns-clause-ok c =
    let entries = c.self.inside.types.entries in
    let fresh : assigned_named 0 (listed vec_items entries) (vec_items c.in_ok-name.name) ≡ None = rw (c.in_ok-name.ensures.items, c.self.view_is) c.requires in
    let last = goes_last vec_items _ (λ x y. refl) 0 c.in_ok-name.name c.args.value_type entries fresh in
    rw (← c.in_ok-name.ensures.items, ← c.self.view_is) (ap (listed vec_items) c.in_ok-insert.ensures.entries ∙ last)
