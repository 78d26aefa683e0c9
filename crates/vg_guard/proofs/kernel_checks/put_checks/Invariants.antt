-- the checks so far, and those with the pointers that are left, are all
use Rattle.std.proofs.Common.{◌≡◌, ◌++◌}
use Rattle.std.specs.List.{filter_map}
use Rattle.vg_kernel.specs.Tree.{tree_of}
use Rattle.vg_guard.specs.Checks.{check_of, checks_with}
use Rattle.vg_guard.proofs.Numbers.{left_from}
use Rattle.vg_guard.proofs.kernel_checks.put_checks.Given as goal

abbrev pub invariant-seconds : goal.invariant-seconds
invariant-seconds l =
    l.to.items ++ filter_map (check_of (tree_of l.kernel) l.first) (left_from l.count l.second)
    ≡ l.initial.to.items ++ checks_with (tree_of l.kernel) l.count l.first
