use Rattle.std.proofs.Common.{arith, ◌≤◌, subst}
use Rattle.vg_terms.specs.Term.{OneFits}
use Rattle.vg_terms.proofs.value.value_of_one.Goals as goal
use Rattle.vg_base.proofs.LowBits.{below_wider}

pub returns-in-Zext-clause-below : goal.returns-in-Zext-clause-below
returns-in-Zext-clause-below c =
    let fits = subst (λ op. OneFits op c.args.width c.args.amount c.args.child_width) c.in-Zext.is c.requires.fits in
    let wider : c.args.child_width ≤ c.args.width = omega (arith, fits.0) in
    below_wider c.args.number c.args.child_width c.args.width c.requires.number wider
