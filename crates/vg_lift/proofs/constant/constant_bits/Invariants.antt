use Rattle.std.proofs.Common.{◌≡◌, ◌-◌, ◌*◌, ◌++◌}
use Rattle.vg_base.specs.Number.{residue}
use Rattle.vg_pool.specs.Pool.{Keeps}
use Rattle.vg_script.specs.Views.{number_of}
use Rattle.vg_lift.specs.LaneTerm.{pieces}
use Rattle.vg_lift.specs.Pieces.{IsPiece}
use Rattle.vg_lift.specs.Views.{BitsFit, bits_of}
use Rattle.vg_lift.proofs.constant.constant_bits.Given as goal

abbrev pub invariant-pieces : goal.invariant-pieces
invariant-pieces l = record {
  is : bits_of l.pool l.all.items ++ pieces l.width (residue l.width (number_of l.number)) (l.piece * 64) (l.width - l.piece * 64)
      ≡ pieces l.width (residue l.width (number_of l.number)) 0 l.width;
  fit : BitsFit l.pool l.all.items;
  last : IsPiece l.pool l.last;
  keeps : Keeps l.initial.pool l.pool;
}
