use Rattle.std.proofs.Common.{◌≡◌, ◌≤◌, length, take}
use Rattle.vg_rewrite.specs.Narrowed.{ask_units}
use Rattle.vg_rewrite.proofs.asking.ask_units.Given as goal

-- what the units in front ask for beside what is asked so far is all
abbrev pub invariant-units : goal.invariant-units
invariant-units l = record {
  inside : l.left ≤ length l.units;
  same : ask_units l.spans l.first (take l.left l.units) l.all ≡ ask_units l.spans l.first l.units l.initial.all;
}

abbrev pub decreases-units : goal.decreases-units
decreases-units l = l.left
