use Rattle.vg_ssa.proofs.TermsLeft.{terms-begun}
use Rattle.vg_ssa.proofs.value_terms.terms_of_units.Goals as goal

pub units-init : goal.units-init
units-init c = terms-begun c.args.depth c.args.params.now c.args.units.now c.in_ok-known.known c.in_ok-known.ensures.first c.in_ok-known.ensures.terms c.requires.few c.requires.fit
