use Rattle.std.proofs.Common.{List, subst}
use Rattle.std.proofs.lemmas.List.{take_all}
use Rattle.vg_shapes.specs.declared.ssa_unit.SsaUnit.{SsaUnit}
use Rattle.vg_events.specs.Events.{unit_labels}
use Rattle.vg_levelled.specs.Adding.{FindsMissing}
use Rattle.vg_levelled.proofs.Missing.{finds-none, finds-units}
use Rattle.vg_levelled.proofs.adding.note_units.Goals as goal

pub units-init : goal.units-init
units-init c = finds-none c.args.sides.now c.args.found.now.items

pub units-preserved : goal.units-preserved
units-preserved c =
    finds-units c.args.sides.now c.units.sides c.note_unit.new.sides c.args.units.now c.units.unit-index _
    c.args.found.now.items c.units.found.items c.note_unit.new.found.items c.units-test.true c.units.invariant
    c.in_ok-note_unit.ensures

pub returns : goal.returns
returns c =
    subst (λ (us : List SsaUnit). FindsMissing c.args.sides.now c.units.sides (unit_labels us) c.args.found.now.items
    c.units.found.items) (take_all c.units.unit-index c.args.units.now c.units-test.false) c.units.invariant
