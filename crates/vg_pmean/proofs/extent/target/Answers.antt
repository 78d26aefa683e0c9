use Rattle.std.proofs.Common.{ap, arith}
use Rattle.vg_pmean.proofs.Laying.{ends}
use Rattle.vg_pmean.proofs.extent.target.Goals as goal

pub overflow_add-result : goal.overflow_add-result
overflow_add-result c =
    let at = ap (λ e. e.start) c.place_of-place.ensures in
    omega (arith, at, ends c.args.places.now 0 c.args.register c.requires.laid, c.requires.small, c.requires.inside)

pub returns-clause-within : goal.returns-clause-within
returns-clause-within c =
    let at = ap (λ e. e.start) c.place_of-place.ensures in
    omega (arith, at, ends c.args.places.now 0 c.args.register c.requires.laid, c.requires.inside)
