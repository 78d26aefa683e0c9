-- the immediates that are left are judged as all of them
use Rattle.std.proofs.Common.{◌≡◌, ◌+◌, ◌-◌}
use Rattle.vg_names.specs.Views.{resolved_of}
use Rattle.vg_range.specs.Acceptance.{judged_from}
use Rattle.vg_range.proofs.accepting.judged_from.Given as goal

abbrev pub invariant-immediates : goal.invariant-immediates
invariant-immediates l =
    judged_from (resolved_of l.resolved) (l.range.lo + l.step) (l.count - l.step)
    ≡ judged_from (resolved_of l.resolved) l.range.lo l.count
