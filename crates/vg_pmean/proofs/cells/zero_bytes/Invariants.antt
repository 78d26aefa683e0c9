use Rattle.std.proofs.Common.{◌-◌, ◌≤◌}
use Rattle.std.specs.Prelude.{vec_len, vec_capacity}
use Rattle.vg_pmean.proofs.cells.zero_bytes.Given as goal

abbrev pub invariant-bytes : goal.invariant-bytes
invariant-bytes l = record {
  few : vec_len l.bytes ≤ l.count;
  room : l.count ≤ vec_capacity l.bytes;
}

abbrev pub decreases-bytes : goal.decreases-bytes
decreases-bytes l = l.count - vec_len l.bytes
