-- the checks so far, and what is read after them, are what is read of the text
use Rattle.std.proofs.Common.{◌≡◌, ◌≤◌, ◌-◌, [], vec_len}
use Rattle.vg_guard.specs.Grammar.{checks_at}
use Rattle.vg_guard.proofs.reading.checks_at.Given as goal

abbrev pub invariant-checks : goal.invariant-checks
invariant-checks l = record {
  same : checks_at (4194304 - vec_len l.checks) l.params l.checks.items l.last l.rest ≡ checks_at 4194304 l.params [] (0, 0) l.fn.text;
  few : vec_len l.checks ≤ 4194304;
}

abbrev pub decreases-checks : goal.decreases-checks
decreases-checks l = 4194304 - vec_len l.checks
