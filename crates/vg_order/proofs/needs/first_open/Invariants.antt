use Rattle.std.proofs.Common.{◌≡◌, ℕ, ◌<◌, ◌≤◌, true}
use Rattle.std.specs.Prelude.{slice_index}
use Rattle.vg_order.specs.Needs.{flag_at}
use Rattle.vg_order.proofs.needs.first_open.Given as goal

abbrev pub invariant-loop-k : goal.invariant-loop-k
invariant-loop-k l = (j : ℕ) → l.from ≤ j → j < l.k → flag_at l.placed (slice_index l.homes (slice_index l.row j)) ≡ true
