use Rattle.std.proofs.Common.{◌≡◌, ◌≤◌, ◌<◌, ℕ, false, get_or}
use Rattle.vg_cost.proofs.settling.changed_end.Given as goal

abbrev pub invariant-marks : goal.invariant-marks
invariant-marks l = record {
  bound : l.left ≤ l.end;
  still : (v : ℕ) → l.left ≤ v → v < l.end → get_or l.changed v false ≡ false;
}

abbrev pub decreases-marks : goal.decreases-marks
decreases-marks l = l.left
