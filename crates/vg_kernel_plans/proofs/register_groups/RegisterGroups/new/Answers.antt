use Rattle.std.proofs.Common.{arith, subst, sym}
use Rattle.std.proofs.lemmas.Bool.Decides.{nat_tests}
use Rattle.vg_kernel_plans.specs.LoadTable.{HaveUnitsBelow}
use Rattle.vg_kernel_plans.proofs.GroupNumbers.{table-there}
use Rattle.vg_kernel_plans.proofs.register_groups.RegisterGroups.new.Goals as goal

pub returns-clause-table : goal.returns-clause-table
returns-clause-table c = record {
  table =
      table-there c.in_ok-groups.groups.items c.as_slice.result.now c.args.units c.in_ok-numbers.numbers.items c.as_slice.ensures.value c.in_ok-numbers.ensures
      (subst (λ gs. HaveUnitsBelow gs c.args.units) (sym c.in_ok-groups.ensures) c.requires.below);
  few = grind (arith, nat_tests, c.if-many.false);
}
