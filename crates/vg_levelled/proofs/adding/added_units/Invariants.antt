use Rattle.vg_levelled.specs.Adding.{IsOnWay}
use Rattle.vg_levelled.proofs.adding.added_units.Given as goal

abbrev pub invariant-units : goal.invariant-units
invariant-units l = IsOnWay l.initial.sides l.sides l.units l.unit-index l.added.items
