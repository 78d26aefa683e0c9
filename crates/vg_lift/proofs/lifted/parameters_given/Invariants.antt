use Rattle.std.proofs.Common.{◌≡◌, ◌-◌, ◌++◌}
use Rattle.vg_lift.specs.LaneTerm.{parameters_from}
use Rattle.vg_lift.specs.Passed.{AllPassedFit, all_passed}
use Rattle.vg_lift.proofs.lifted.parameters_given.Given as goal

abbrev pub invariant-parameters : goal.invariant-parameters
invariant-parameters l = record {
  is : all_passed l._pool l.all.items ++ parameters_from l.parameter (l.parameters - l.parameter) ≡ parameters_from 0 l.parameters;
  fit : AllPassedFit l._pool l.all.items;
}
