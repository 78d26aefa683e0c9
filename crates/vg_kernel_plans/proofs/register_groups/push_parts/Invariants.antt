use Rattle.std.proofs.Common.{◌≡◌, ◌≤◌, ◌++◌, drop, length}
use Rattle.vg_kernel_plans.specs.LoadGroups.{cut_from}
use Rattle.vg_kernel_plans.proofs.register_groups.push_parts.Given as goal

abbrev pub invariant-parts : goal.invariant-parts
invariant-parts l = record {
  parts :
      l.groups.items ++ cut_from l.register l.width l.turns (drop l.from l.units)
      ≡ l.initial.groups.items ++ cut_from l.register l.width (length l.units) l.units;
  inside : l.from ≤ length l.units;
}

abbrev pub decreases-parts : goal.decreases-parts
decreases-parts l = l.turns
