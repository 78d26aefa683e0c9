use Rattle.std.proofs.Common.{◌+◌, ◌-◌, ◌∙◌}
use Rattle.std.specs.Prelude.{min}
use Rattle.vg_bits.specs.Range.{range}
use Rattle.vg_pmean.proofs.Laying.{part_is}
use Rattle.vg_pmean.proofs.extent.Extent.part.Goals as goal

pub returns-clause-is : goal.returns-clause-is
returns-clause-is c = λ l fits.
    let start = c.args.self.start in
    let width = c.args.self.width in
    let skipped = c.min-skipped.result in
    (λ i. range (start + skipped) (c.min.ensures i) l)
    ∙ (λ i. range (start + c.min-skipped.ensures i) (min c.args.width (width - c.min-skipped.ensures i)) l)
    ∙ part_is l start width c.args.low c.args.width fits
