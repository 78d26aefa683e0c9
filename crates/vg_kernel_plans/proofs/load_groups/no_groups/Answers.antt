use Rattle.vg_kernel_plans.proofs.Tables.{none-there}
use Rattle.vg_kernel_plans.proofs.load_groups.no_groups.Goals as goal

pub returns-clause-none : goal.returns-clause-none
returns-clause-none c register =
    none-there register c.none-of_512.result.groups.items c.none-of_256.result.groups.items c.none-of_128.result.groups.items
    c.none-of_512.ensures.groups c.none-of_256.ensures.groups c.none-of_128.ensures.groups
