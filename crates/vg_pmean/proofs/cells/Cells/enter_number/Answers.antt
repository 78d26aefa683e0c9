use Rattle.std.proofs.Common.{◌∙◌, ap}
use Rattle.vg_bits.proofs.BitLists.{bits-mod}
use Rattle.vg_pmean.specs.Held.{held}
use Rattle.vg_pmean.proofs.Entering.{whole_written}
use Rattle.vg_pmean.proofs.cells.Cells.enter_number.Goals as goal

pub returns : goal.returns
returns c =
    c.fill.ensures.is
    ∙ ap (λ d. held d c.args.self.now.room)
    (whole_written c.args.self.now.cells c.args.register c.width-width.result c.args.number _ c.width-width.ensures (bits-mod c.width-width.result c.args.number))
