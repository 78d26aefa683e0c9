-- what is found, and what is left after it
use Rattle.std.proofs.Common.{◌≡◌, ◌++◌, map, length}
use Rattle.vg_interval.specs.Views.{passed_view}
use Rattle.vg_range.specs.Walk.{constants_of}
use Rattle.vg_range.proofs.frames.constants_of.Given as goal

abbrev pub invariant-registers : goal.invariant-registers
invariant-registers l =
    l.constants.items ++ constants_of l.left (map passed_view l.rest)
    ≡ constants_of l.fn.widths (map passed_view l.fn.given)

abbrev pub decreases-registers : goal.decreases-registers
decreases-registers l = length l.left
