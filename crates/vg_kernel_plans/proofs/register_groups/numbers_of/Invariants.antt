use Rattle.std.proofs.Common.{◌≡◌}
use Rattle.std.specs.Prelude.{filter}
use Rattle.vg_shapes.specs.Order.{numbers_from}
use Rattle.vg_kernel_plans.specs.LoadTable.{has_unit}
use Rattle.vg_kernel_plans.proofs.register_groups.numbers_of.Given as goal

abbrev pub invariant-groups : goal.invariant-groups
invariant-groups l = l.numbers.items ≡ filter (has_unit l.groups l.unit) (numbers_from 0 l.index)
