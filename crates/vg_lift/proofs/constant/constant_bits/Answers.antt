use Rattle.std.proofs.Common.{◌∙◌, arith}
use Rattle.vg_base.specs.Number.{residue}
use Rattle.vg_script.specs.Views.{number_of}
use Rattle.vg_lift.specs.Views.{bits_of}
use Rattle.vg_lift.proofs.Constants.{piece_pushed}
use Rattle.vg_lift.proofs.Puts.{kept_twice}
use Rattle.vg_lift.proofs.constant.constant_bits.Goals as goal

pub pieces-preserved : goal.pieces-preserved
pieces-preserved c =
    let now = c.pieces.pool in
    let new = c.push_piece.new.pool in
    let w = c.args.width in
    let q = c.pieces.piece in
    let v = residue w (number_of c.args.number) in
    let inv = c.pieces.invariant in
    record {
      is = piece_pushed new c.push_piece.new.bits.items w v q (bits_of now c.pieces.all.items) (omega (arith, c.pieces-test.true)) c.in_ok-last.ensures.is ∙ inv.is;
      fit = c.in_ok-last.ensures.fit;
      last = c.in_ok-last.ensures.last;
      keeps = kept_twice c.args.pool.now now new inv.keeps c.push_piece.ensures.keeps;
    }
