use Rattle.std.proofs.Common.{◌∙◌, sym, ap}
use Rattle.vg_pmean.specs.Extent.{place_in}
use Rattle.vg_pmean.proofs.Holding.{width_here}
use Rattle.vg_pmean.proofs.cells.Cells.width.Goals as goal

pub returns : goal.returns
returns c =
    ap (λ e. e.width) c.place_of.ensures
    ∙ ap (λ l. (place_in l c.args.register).width) c.deref.ensures.value
    ∙ sym (width_here c.self.inside.room c.self.inside.places.items c.self.inside.bytes _ c.self.inside.variables.items _ _ c.self.invariant c.args.self.now c.self.view_is c.args.register)
