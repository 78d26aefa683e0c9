-- the ways that are left, in front of what the others do
use Rattle.std.proofs.Common.{◌≡◌, map, length}
use Rattle.std.specs.Prelude.{reverse}
use Rattle.vg_script.specs.Views.{script_of}
use Rattle.vg_range.specs.Steps.{way_view}
use Rattle.vg_range.specs.Walk.{in_front}
use Rattle.vg_range.proofs.ways.in_front.Given as goal

abbrev pub invariant-ways : goal.invariant-ways
invariant-ways l =
    in_front (reverse (map way_view l.ways.items)) (script_of l.script)
    ≡ in_front (reverse (map way_view l.initial.ways.items)) (script_of l.fn.last)

abbrev pub decreases-ways : goal.decreases-ways
decreases-ways l = length l.ways.items
