use Rattle.std.proofs.Common.{◌≡◌, ◌++◌, drop}
use Rattle.std.specs.Prelude.{map}
use Rattle.vg_pool.specs.Pool.{Keeps}
use Rattle.vg_lift.specs.LaneTerm.{entered}
use Rattle.vg_lift.specs.Passed.{all_passed}
use Rattle.vg_lift.specs.States.{AllFit}
use Rattle.vg_lift.specs.Views.{bits_of}
use Rattle.vg_lift.proofs.begin.entered.Given as goal

abbrev pub invariant-registers : goal.invariant-registers
invariant-registers l = record {
  is : map (bits_of l.pool) l.all.items ++ entered (drop l.place l.widths) (drop l.place (all_passed l.initial.pool l.given)) ≡ entered l.widths (all_passed l.initial.pool l.given);
  fit : AllFit l.pool l.all.items;
  keeps : Keeps l.initial.pool l.pool;
}
