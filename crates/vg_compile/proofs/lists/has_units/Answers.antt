use Rattle.std.proofs.Common.{◌∙◌, sym}
use Rattle.vg_compile.proofs.SameUnits.{units-are}
use Rattle.vg_compile.proofs.lists.has_units.Goals as goal

pub returns : goal.returns
returns c = λ e. sym c.as_slice.ensures ∙ units-are c.as_slice.result.now c.as_slice-2.result.now (sym c.same_units.ensures ∙ e) ∙ c.as_slice-2.ensures
