use Rattle.std.proofs.Common.{◌+◌, ◌-◌, ◌≡◌, ◌++◌, ◌≤◌, vec_len, vec_capacity}
use Rattle.vg_lift.specs.Views.{node_bits}
use Rattle.vg_lift.proofs.join.push_bits.Given as goal

abbrev pub invariant-bits : goal.invariant-bits
invariant-bits l = record {
  same : l.bits.items ++ node_bits l.node l.width l.bit (l.end - l.bit) ≡ l.initial.bits.items ++ node_bits l.node l.width l.from l.count;
  less : l.bit ≤ l.end;
  room : vec_len l.bits + (l.end - l.bit) ≤ vec_capacity l.bits;
}

abbrev pub decreases-bits : goal.decreases-bits
decreases-bits l = l.end - l.bit
