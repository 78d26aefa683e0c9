use Rattle.std.proofs.Common.{◌≤◌}
use Rattle.std.specs.Prelude.{◌-◌, nat_lt}
use Rattle.vg_packs.specs.Marks.{AddsMarks}
use Rattle.vg_packs.proofs.marks.mark_below.Given as goal

abbrev pub invariant-numbers : goal.invariant-numbers
invariant-numbers l = record {
  marked : AddsMarks (λ v. nat_lt v l.number) l.fn.marks l.marks;
  few : l.number ≤ l.end;
}

abbrev pub decreases-numbers : goal.decreases-numbers
decreases-numbers l = l.end - l.number
