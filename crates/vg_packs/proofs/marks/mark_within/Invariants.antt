use Rattle.std.proofs.Common.{◌≡◌, ◌≤◌, ◌⊎◌}
use Rattle.std.specs.Prelude.{◌-◌}
use Rattle.vg_packs.specs.Marks.{AddsMarks, is_within}
use Rattle.vg_packs.proofs.marks.mark_within.Given as goal

abbrev pub invariant-numbers : goal.invariant-numbers
invariant-numbers l = record {
  marked : AddsMarks (is_within l.least l.number) l.fn.marks l.marks;
  few : (l.number ≡ l.least) ⊎ (l.number ≤ l.greatest);
  least : l.least ≤ l.number;
}

abbrev pub decreases-numbers : goal.decreases-numbers
decreases-numbers l = l.greatest - l.number
