use Rattle.std.proofs.Common.{◌≡◌, None, drop}
use Rattle.vg_beam.specs.Grown.{least_from}
use Rattle.vg_beam.proofs.candidate.least_below.Given as goal

abbrev pub invariant-candidates : goal.invariant-candidates
invariant-candidates l =
    least_from (λ c. c.cost) l.cost l.least (drop l.candidate-index l.met)
    ≡ least_from (λ c. c.cost) l.fn.bound None l.met
