use Rattle.std.proofs.Common.{ℕ, ◌+◌, ◌∙◌, ap, arith}
use Rattle.vg_base.specs.Bits.{bits, bits_of_bytes}
use Rattle.vg_bits.specs.Range.{replaced}
use Rattle.vg_bits.proofs.ByteLists.{length-bits_of_bytes}
use Rattle.vg_pmean.proofs.Numbers.{repeated, repeat_step}
use Rattle.vg_pmean.proofs.pieces.repeat.Goals as goal

pub pieces-preserved : goal.pieces-preserved
pieces-preserved c =
    let count = c.min-count.result in
    let same = ap (bits count) c.piece_of-piece.ensures ∙ repeated c.args.is_one count (omega (arith, c.min-count.ensures)) in
    record {
      within = omega (arith, c.min-count.ensures, c.pieces.invariant.within);
      written =
          c.write.ensures
          ∙ ap (λ (n : ℕ). replaced n (bits count c.piece_of-piece.result) (bits_of_bytes c.pieces.bytes)) c.new.ensures
          ∙ ap (λ l. replaced (c.args.at + c.pieces.done) (bits count c.piece_of-piece.result) l) c.pieces.invariant.written
          ∙ repeat_step (bits_of_bytes c.args.bytes.now) c.args.at c.pieces.done count _ (bits count c.piece_of-piece.result) same (omega (arith, c.min-count.ensures, length-bits_of_bytes c.args.bytes.now));
    }
