-- so many statements were appended
use Rattle.std.proofs.Common.{◌≡◌, ◌++◌}
use Rattle.vg_trial.specs.Trial.{statements}
use Rattle.vg_trial.proofs.kernel.put_group.Given as goal

abbrev pub invariant-statements : goal.invariant-statements
invariant-statements l = l.text.items ≡ l.initial.text.items ++ statements l.shape l.k l.i
