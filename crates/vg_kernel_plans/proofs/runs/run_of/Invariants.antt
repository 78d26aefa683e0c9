use Rattle.std.proofs.Common.{◌≡◌, ◌++◌}
use Rattle.vg_kernel_plans.specs.LoadGroups.{run_at, run_of as whole_run}
use Rattle.vg_kernel_plans.specs.LoadTable.{place}
use Rattle.vg_kernel_plans.proofs.runs.run_of.Given as goal

abbrev pub invariant-places : goal.invariant-places
invariant-places l =
    l.units.items ++ run_at l.loads (place l.first.address.pointer l.offset) l.first.width l.left
    ≡ whole_run l.loads l.first

abbrev pub decreases-places : goal.decreases-places
decreases-places l = l.left
