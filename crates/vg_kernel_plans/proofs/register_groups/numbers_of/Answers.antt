use Rattle.vg_kernel_plans.proofs.GroupNumbers.{number-more}
use Rattle.vg_kernel_plans.proofs.register_groups.numbers_of.Goals as goal

pub groups-preserved : goal.groups-preserved
groups-preserved c =
    number-more c.args.groups.now c.args.unit c.groups.index c.groups.numbers.items c.push_number.new.numbers.items
    c.groups.invariant c.in_ok-push_number.ensures
