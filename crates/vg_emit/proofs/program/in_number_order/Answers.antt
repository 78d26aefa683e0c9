use Rattle.std.proofs.Common.{◌∙◌, [], ◌∷◌, ◌++◌, ap, sym, map, append_assoc}
use Rattle.std.specs.Prelude.{◌+◌, ◌-◌}
use Rattle.vg_shapes.specs.declared.order.Node.TheVariants.{UnitAt}
use Rattle.vg_shapes.specs.Order.{numbers_from}
use Rattle.vg_emit.proofs.Numbering.{next-number}
use Rattle.vg_emit.proofs.program.in_number_order.Goals as goal

pub units-preserved : goal.units-preserved
units-preserved c =
    let rest = map UnitAt (numbers_from (c.units.unit + 1) (c.count_values-end.result - (c.units.unit + 1))) in
    ap (λ ns. ns ++ rest) c.in_ok-push.ensures.items
    ∙ append_assoc c.units.nodes.items (UnitAt c.units.unit ∷ []) rest
    ∙ ap (λ ns. c.units.nodes.items ++ map UnitAt ns) (sym (next-number c.units.unit c.count_values-end.result c.units-test.true))
    ∙ c.units.invariant
