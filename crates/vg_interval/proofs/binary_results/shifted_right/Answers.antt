use Rattle.std.proofs.Common.{rules, ◌∙◌}
use Rattle.std.specs.Int.{w128}
use Rattle.std.proofs.lemmas.Int.{to_z-of_z}
use Rattle.vg_pseudo.specs.Whole.{natural}
use Rattle.vg_interval.proofs.Constants.{capped}
use Rattle.vg_interval.proofs.binary_results.shifted_right.Goals as goal

pub returns : goal.returns
returns c =
    let x = to_z-of_z w128 c.args.x c.ranges.x in
    let n = to_z-of_z w128 c.args.places c.ranges.places in
    let shifted = rw (x, n) at c.floor_by.ensures in
    search (rules, shifted ∙ capped c.args.x (natural c.args.places) c.ranges.x)
