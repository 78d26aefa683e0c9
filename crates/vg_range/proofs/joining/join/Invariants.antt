-- what is joined, and what is left to join after it
use Rattle.std.proofs.Common.{◌≡◌, ◌++◌, map, length}
use Rattle.vg_interval.specs.Views.{kept_view}
use Rattle.vg_range.specs.Walk.{join}
use Rattle.vg_range.proofs.joining.join.Given as goal

abbrev pub invariant-numbers : goal.invariant-numbers
invariant-numbers l =
    map kept_view l.joined.items ++ join (map kept_view l.one) (map kept_view l.other)
    ≡ join (map kept_view l.fn.first) (map kept_view l.fn.second)

abbrev pub decreases-numbers : goal.decreases-numbers
decreases-numbers l = length l.one
