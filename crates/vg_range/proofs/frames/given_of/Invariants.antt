-- the arguments that are left, in front of those that are given
use Rattle.std.proofs.Common.{◌≡◌, map, length}
use Rattle.vg_interval.specs.Views.{passed_view}
use Rattle.vg_script.specs.Script.{nothing}
use Rattle.vg_script.specs.Views.{given_of}
use Rattle.vg_range.specs.Seen.{given_onto}
use Rattle.vg_range.proofs.frames.given_of.Given as goal

abbrev pub invariant-arguments : goal.invariant-arguments
invariant-arguments l =
    given_onto (map passed_view l.arguments.items) (given_of l.given)
    ≡ given_onto (map passed_view l.initial.arguments.items) nothing

abbrev pub decreases-arguments : goal.decreases-arguments
decreases-arguments l = length l.arguments.items
