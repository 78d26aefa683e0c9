use Rattle.std.proofs.Common.{◌≡◌, ◌∙◌, ap, sym, subst, refl}
use Rattle.std.specs.Prelude.{map, vec_items}
use Rattle.vg_names.specs.Distinct.{with_name, AreDistinct}
use Rattle.vg_names.proofs.TablesOfNames.{name_added, added_distinct}
use Rattle.vg_names.proofs.names.Names.add.Goals as goal

added : (c : goal.In_ok-insert) → map vec_items c.insert.new.self.keys ≡ with_name (map vec_items c.self.inside.all.keys) c.args.name.now
added c =
    rw (← c.in_ok-name.ensures.items)
    (ap (map vec_items) c.in_ok-insert.ensures.keys ∙ name_added vec_items _ (λ x y. refl) c.in_ok-name.name c.self.inside.all.keys)

pub invariant_of-self-2 : goal.invariant_of-self-2
invariant_of-self-2 c = subst AreDistinct (sym (added c)) (added_distinct _ c.args.name.now c.self.invariant)

pub returns : goal.returns
returns c = rw (← c.self.view_is) (added c)
