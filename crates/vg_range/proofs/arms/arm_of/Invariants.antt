-- the arms that are left have what all of them have
use Rattle.std.proofs.Common.{◌≡◌, ◌≤◌}
use Rattle.vg_names.specs.Views.{code_view}
use Rattle.vg_range.specs.Steps.{arm_of}
use Rattle.vg_range.specs.Weight.{code_weight}
use Rattle.vg_range.proofs.arms.arm_of.Given as goal

abbrev pub invariant-arms : goal.invariant-arms
invariant-arms l = record {
  same : arm_of l.number (code_view l.left) ≡ arm_of l.number (code_view l.fn.arms);
  inside : code_weight (code_view l.left) ≤ code_weight (code_view l.fn.arms);
}

abbrev pub decreases-arms : goal.decreases-arms
decreases-arms l = code_weight (code_view l.left)
