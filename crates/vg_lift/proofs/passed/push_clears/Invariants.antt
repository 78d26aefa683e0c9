use Rattle.std.proofs.Common.{◌≡◌, ◌*◌, ◌++◌, replicate}
use Rattle.vg_lift.specs.declared.bit.Bit.TheVariants.{Clear}
use Rattle.vg_lift.proofs.passed.push_clears.Given as goal

abbrev pub invariant-clears : goal.invariant-clears
invariant-clears l = l.bits.items ≡ l.initial.bits.items ++ replicate (64 * l._place) Clear
