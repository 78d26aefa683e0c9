-- the checks so far, and those of the pointers that are left, are all
use Rattle.std.proofs.Common.{◌≡◌, ◌++◌}
use Rattle.std.specs.List.{flat_map}
use Rattle.vg_kernel.specs.Tree.{tree_of}
use Rattle.vg_guard.specs.Checks.{checks_with, checks_of}
use Rattle.vg_guard.proofs.Numbers.{left_from}
use Rattle.vg_guard.proofs.kernel_checks.checks_of.Given as goal

abbrev pub invariant-firsts : goal.invariant-firsts
invariant-firsts l =
    l.checks.items ++ flat_map (checks_with (tree_of l.kernel) l.count) (left_from l.count l.first)
    ≡ checks_of (tree_of l.kernel)
