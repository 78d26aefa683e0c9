use Rattle.std.proofs.Common.{◌∙◌, ap, sym, arith}
use Rattle.vg_bits.specs.Range.{range}
use Rattle.vg_pmean.specs.Extent.{bits_at}
use Rattle.vg_pmean.proofs.Laying.{ends, register_at}
use Rattle.vg_pmean.proofs.extent.source.Goals as goal

pub part-requires : goal.part-requires
part-requires c = rw c.place_of.ensures (omega (arith, ends c.args.places.now 0 c.args.register c.requires.laid, c.requires.small))

pub returns-clause-within : goal.returns-clause-within
returns-clause-within c =
    let at = ap (λ e. e.start) c.place_of.ensures in
    let wide = ap (λ e. e.width) c.place_of.ensures in
    omega (arith, c.part.ensures.within, at, wide, ends c.args.places.now 0 c.args.register c.requires.laid)

pub returns-clause-is : goal.returns-clause-is
returns-clause-is c = λ l fits.
    let at = ap (λ e. e.start) c.place_of.ensures in
    let wide = ap (λ e. e.width) c.place_of.ensures in
    c.part.ensures.is l (omega (arith, fits, at, wide, ends c.args.places.now 0 c.args.register c.requires.laid))
    ∙ ap (λ e. range c.args.low c.args.width (bits_at l e)) c.place_of.ensures
    ∙ ap (λ v. range c.args.low c.args.width v) (sym (register_at l c.args.places.now c.args.register))
