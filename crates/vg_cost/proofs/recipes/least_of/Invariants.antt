use Rattle.std.proofs.Common.{◌≡◌, drop}
use Rattle.vg_cost.specs.Had.{least_of}
use Rattle.vg_cost.proofs.recipes.least_of.Given as goal

abbrev pub invariant-costs : goal.invariant-costs
invariant-costs l = least_of l.least (drop l.cost-index l.costs) ≡ least_of l.initial.least l.costs
