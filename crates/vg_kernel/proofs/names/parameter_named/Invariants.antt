-- the parameters that are left, after so many pointers and integers, stand for what all did
use Rattle.std.proofs.Common.{◌≡◌, ◌+◌, length}
use Rattle.vg_kernel.specs.Names.{parameter_named}
use Rattle.vg_kernel.proofs.names.parameter_named.Given as goal

abbrev pub invariant-params : goal.invariant-params
invariant-params l = record {
  whole : parameter_named l.pointers l.integers l.rest l.name ≡ parameter_named 0 0 l.initial.rest l.name;
  passed : l.pointers + l.integers + length l.rest ≡ length l.initial.rest;
}

abbrev pub decreases-params : goal.decreases-params
decreases-params l = length l.rest
