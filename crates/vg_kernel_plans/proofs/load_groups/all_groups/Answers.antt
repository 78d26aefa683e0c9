use Rattle.std.proofs.Common.{◌∙◌}
use Rattle.vg_kernel_plans.specs.LoadGroups.{load_groups}
use Rattle.vg_kernel_plans.proofs.Tables.{all-there, tried-all}
use Rattle.vg_kernel_plans.proofs.load_groups.all_groups.Goals as goal

pub returns-clause-groups : goal.returns-clause-groups
returns-clause-groups c = record {
  tables = record { of_512 = c.in_ok-of_512.ensures.table; of_256 = c.in_ok-of_256.ensures.table; of_128 = c.in_ok-of_128.ensures.table };
  groups = λ register.
      all-there c.args.ssa.now c.in_ok-of_512.of_512.groups.items c.in_ok-of_256.of_256.groups.items c.in_ok-of_128.of_128.groups.items
      c.in_ok-of_512.ensures.groups c.in_ok-of_256.ensures.groups c.in_ok-of_128.ensures.groups register
      ∙ tried-all c.args.choice.fed c.requires (load_groups c.args.ssa.now register);
}
