use Rattle.std.proofs.Common.{◌≡◌, ◌≤◌, ◌-◌, take, length}
use Rattle.vg_kernel_plans.specs.LoadTable.{IsLeast, having as found, is_wanted_from}
use Rattle.vg_kernel_plans.proofs.register_groups.RegisterGroups.having.Given as goal

abbrev pub invariant-groups : goal.invariant-groups
invariant-groups l = record {
  inside : l.from ≤ length l.self.groups.items;
  packs : l.packs.items ≡ found (take l.from l.self.groups.items) l.units;
  next : IsLeast (is_wanted_from l.self.groups.items l.units l.from) l.next;
}

abbrev pub decreases-groups : goal.decreases-groups
decreases-groups l = length l.self.groups.items - l.from
