use Rattle.std.proofs.Common.{◌≡◌, ◌-◌, ◌++◌}
use Rattle.vg_lift.specs.Gather.{inputs_from}
use Rattle.vg_lift.specs.Views.{BitsFit, bits_of}
use Rattle.vg_lift.proofs.passed.input_bits.Given as goal

abbrev pub invariant-bits : goal.invariant-bits
invariant-bits l = record {
  is : bits_of l._pool l.all.items ++ inputs_from l.parameter l.bit (l.width - l.bit) ≡ inputs_from l.parameter 0 l.width;
  fit : BitsFit l._pool l.all.items;
}
