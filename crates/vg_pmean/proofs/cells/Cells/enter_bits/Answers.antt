use Rattle.std.proofs.Common.{◌∙◌, refl, ap}
use Rattle.vg_pmean.specs.Held.{held}
use Rattle.vg_pmean.proofs.Entering.{whole_written}
use Rattle.vg_pmean.proofs.cells.Cells.enter_bits.Goals as goal

pub returns : goal.returns
returns c =
    c.copy_from.ensures.is
    ∙ ap (λ d. held d c.args.self.now.room)
    (whole_written c.args.self.now.cells c.args.register c.width-width.result _ _ c.width-width.ensures refl)
