use Rattle.std.proofs.Common.{◌+◌, List, Some, arith, refl, subst, sym}
use Rattle.vg_shapes.specs.declared.ssa_unit.SsaUnit.{SsaUnit}
use Rattle.vg_levelled.specs.Adding.{FindsUnits, IsOnWay}
use Rattle.vg_levelled.proofs.Units.{drop-past, on-end, on-turn}
use Rattle.vg_levelled.proofs.adding.added_units.Goals as goal

pub units-preserved : goal.units-preserved
units-preserved c =
    subst (λ (l : List SsaUnit). IsOnWay c.args.sides.now
    (record { met = c.units.sides.met; kernel = c.push_copies.new.kernel; program = c.units.sides.program })
    c.args.units.now (c.units.unit-index + 1) l) (sym c.in_ok-push_copies.ensures.units)
    (on-turn c.args.sides.now c.units.sides c.push_copies.new.kernel c.args.units.now c.units.unit-index _ _
    c.copies_of-count.result c.units.added.items c.units-test.true refl
    c.copies_of-count.ensures (omega (arith, c.len.ensures)) c.in_ok-push_copies.ensures.kernel c.units.invariant)

pub returns : goal.returns
returns c =
    subst (λ (l : List SsaUnit). FindsUnits c.args.sides.now c.units.sides c.args.units.now (Some l))
    (sym c.from_vec.ensures)
    (on-end c.args.sides.now c.units.sides c.args.units.now c.units.unit-index c.units.added.items
    (drop-past c.args.units.now c.units.unit-index (omega arith)) c.units.invariant)
