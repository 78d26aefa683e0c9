use Rattle.std.proofs.Common.{◌≡◌, ◌<◌, ◌≤◌, ◌⊎◌, length}
use Rattle.vg_packs.proofs.floor.floor_under.Given as goal

abbrev pub invariant-down : goal.invariant-down
invariant-down l = record {
  below : l.floor ≤ l.from;
  inside : (l.floor ≡ 0) ⊎ (l.floor < length l.spanned);
}

abbrev pub decreases-down : goal.decreases-down
decreases-down l = l.floor
