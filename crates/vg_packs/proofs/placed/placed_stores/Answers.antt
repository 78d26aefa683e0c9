use Rattle.std.proofs.Common.{◌+◌, ◌++◌, ◌<◌, ◌∙◌, ap, subst, refl, length}
use Rattle.vg_packs.specs.Placed.{placed_here}
use Rattle.vg_packs.proofs.Placing.{placed-more}
use Rattle.vg_packs.proofs.placed.placed_stores.Goals as goal

pub units-preserved : goal.units-preserved
units-preserved c =
    let number = c.arguments-first.result + c.units.index in
    placed-more c.args.ssa.now c.arguments-first.result c.units.index number
    c.units.stores.items c.push_store.new.stores.items c.arguments-first.ensures
    (subst (λ xs. c.units.index < length xs) c.as_slice-count.ensures c.units-test.true) refl c.units.invariant
    (c.in_ok-push_store.ensures ∙ ap (λ u. c.units.stores.items ++ placed_here c.units.stores.items number u) c.unit_at.ensures)
