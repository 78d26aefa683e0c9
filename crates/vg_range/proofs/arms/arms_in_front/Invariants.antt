-- the arms that are left, in front of the others
use Rattle.std.proofs.Common.{◌≡◌, map, length}
use Rattle.std.specs.Prelude.{reverse}
use Rattle.vg_script.specs.Script.{stop}
use Rattle.vg_script.specs.Views.{script_of}
use Rattle.vg_range.specs.Steps.{arm_view}
use Rattle.vg_range.specs.Walk.{arms_in_front}
use Rattle.vg_range.proofs.arms.arms_in_front.Given as goal

abbrev pub invariant-arms : goal.invariant-arms
invariant-arms l =
    arms_in_front (reverse (map arm_view l.arms.items)) (script_of l.script)
    ≡ arms_in_front (reverse (map arm_view l.initial.arms.items)) stop

abbrev pub decreases-arms : goal.decreases-arms
decreases-arms l = length l.arms.items
