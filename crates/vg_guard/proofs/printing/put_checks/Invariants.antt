-- what is printed so far, and the checks that are left, are the whole
use Rattle.std.proofs.Common.{◌≡◌, ◌++◌, length}
use Rattle.vg_guard.specs.Guarded.{checks_text}
use Rattle.vg_guard.proofs.printing.put_checks.Given as goal

abbrev pub invariant-checks : goal.invariant-checks
invariant-checks l = l.to.items ++ checks_text l.params l.rest ≡ l.initial.to.items ++ checks_text l.params l.fn.checks

abbrev pub decreases-checks : goal.decreases-checks
decreases-checks l = length l.rest
