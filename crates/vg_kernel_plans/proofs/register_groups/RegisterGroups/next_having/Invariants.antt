use Rattle.std.proofs.Common.{take}
use Rattle.vg_kernel_plans.specs.LoadTable.{IsLeast, is_wanted_from}
use Rattle.vg_kernel_plans.proofs.register_groups.RegisterGroups.next_having.Given as goal

abbrev pub invariant-units : goal.invariant-units
invariant-units l = IsLeast (is_wanted_from l.self.groups.items (take l.unit-index l.units) l.from) l.least
