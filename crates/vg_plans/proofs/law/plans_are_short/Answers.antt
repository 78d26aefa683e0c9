use Rattle.vg_plans.proofs.Disjoint.{at-most-units}
use Rattle.vg_plans.proofs.law.plans_are_short.Goals as goal

pub returns : goal.returns
returns c w is i plan m = at-most-units w is i plan m
