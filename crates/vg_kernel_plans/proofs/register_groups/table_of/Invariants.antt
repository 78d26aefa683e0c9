use Rattle.std.proofs.Common.{◌≡◌, map}
use Rattle.vg_shapes.specs.Order.{numbers_from}
use Rattle.vg_kernel_plans.specs.LoadTable.{numbers_of}
use Rattle.vg_kernel_plans.proofs.register_groups.table_of.Given as goal

abbrev pub invariant-units : goal.invariant-units
invariant-units l = l.table.items ≡ map (numbers_of l.groups) (numbers_from 0 l.unit)
