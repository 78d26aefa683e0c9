use Rattle.std.proofs.Common.{◌≡◌, ◌+◌, ◌≤◌, ◌++◌, length}
use Rattle.vg_value_text.specs.Listed.{argument_lines}
use Rattle.vg_value_text.proofs.listing.put_arguments.Given as goal

abbrev pub decreases-params : goal.decreases-params
decreases-params l = length l.left

abbrev pub invariant-params : goal.invariant-params
invariant-params l =
    (l.to.items ++ argument_lines l.number l.left ≡ l.initial.to.items ++ argument_lines 0 l.params)
    × (l.number + length l.left ≤ 16)
