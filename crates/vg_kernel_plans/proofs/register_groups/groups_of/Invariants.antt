use Rattle.std.proofs.Common.{◌≡◌, flat_map, take}
use Rattle.vg_kernel_plans.specs.LoadGroups.{groups_in}
use Rattle.vg_kernel_plans.proofs.register_groups.groups_of.Given as goal

abbrev pub invariant-begins : goal.invariant-begins
invariant-begins l = l.groups.items ≡ flat_map (groups_in l.register l.loads) (take l.first-index l.begins)
