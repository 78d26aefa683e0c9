use Rattle.vg_kernel_plans.proofs.GroupNumbers.{table-more}
use Rattle.vg_kernel_plans.proofs.register_groups.table_of.Goals as goal

pub units-preserved : goal.units-preserved
units-preserved c =
    table-more c.args.groups.now c.units.unit c.units.table.items c.push.new.self.items c.in_ok-numbers.numbers
    c.units.invariant c.in_ok-numbers.ensures c.in_ok-push.ensures.items
