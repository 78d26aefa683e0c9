use Rattle.std.proofs.Common.{◌≡◌, drop}
use Rattle.vg_kernel_plans.specs.LoadTable.{least_onto}
use Rattle.vg_kernel_plans.proofs.register_groups.least_onto.Given as goal

abbrev pub invariant-numbers : goal.invariant-numbers
invariant-numbers l =
    least_onto l.from l.least (drop l.number-index l.numbers) ≡ least_onto l.from l.fn.found l.numbers
