use Rattle.std.proofs.Common.{◌≡◌, ◌≤◌, ◌<◌, ℕ, false, get_or}
use Rattle.vg_cost.proofs.settling.still_end.Given as goal

abbrev pub invariant-eights : goal.invariant-eights
invariant-eights l = record {
  bound : l.left ≤ l.end;
  still : (v : ℕ) → l.left ≤ v → v < l.end → get_or l.changed v false ≡ false;
}

abbrev pub decreases-eights : goal.decreases-eights
decreases-eights l = l.left
