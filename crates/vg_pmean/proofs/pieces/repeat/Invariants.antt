use Rattle.std.proofs.Common.{◌≡◌, ◌-◌, ◌≤◌, replicate}
use Rattle.std.specs.Prelude.{if◌then◌else◌}
use Rattle.vg_base.specs.Bits.{bits_of_bytes}
use Rattle.vg_bits.specs.Range.{replaced}
use Rattle.vg_pmean.proofs.pieces.repeat.Given as goal

abbrev pub invariant-pieces : goal.invariant-pieces
invariant-pieces l = record {
  within : l.done ≤ l.width;
  written : bits_of_bytes l.bytes ≡ replaced l.at (replicate l.done (if l.is_one then 1 else 0)) (bits_of_bytes l.initial.bytes);
}

abbrev pub decreases-pieces : goal.decreases-pieces
decreases-pieces l = l.width - l.done
