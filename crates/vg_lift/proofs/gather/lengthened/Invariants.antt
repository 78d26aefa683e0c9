use Rattle.std.proofs.Common.{◌≡◌, ◌+◌, ◌-◌, ◌<◌, ◌≤◌, drop, length}
use Rattle.vg_lift.specs.Gather.{gather_from}
use Rattle.vg_lift.specs.Views.{RunFits, bits_of, run_of, run_size}
use Rattle.vg_lift.proofs.gather.lengthened.Given as goal

abbrev pub invariant-bits : goal.invariant-bits
invariant-bits l = record {
  is : gather_from (run_of l.pool l.longer) (bits_of l.pool (drop l.count l.bits)) ≡ gather_from (run_of l.pool l.fn.run) (bits_of l.pool l.bits);
  fits : RunFits l.pool l.longer;
  size : run_size l.longer ≡ run_size l.fn.run + l.count;
  some : 0 < l.count;
  within : l.count ≤ length l.bits;
}

abbrev pub decreases-bits : goal.decreases-bits
decreases-bits l = length l.bits - l.count
