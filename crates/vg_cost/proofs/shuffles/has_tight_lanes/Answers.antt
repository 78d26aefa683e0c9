use Rattle.std.proofs.Common.{◌∙◌, ap, length, map}
use Rattle.std.specs.List.{list_all}
use Rattle.vg_terms.specs.Term.{tree}
use Rattle.vg_cost.specs.Shuffling.{is_tight_lane}
use Rattle.vg_cost.proofs.Scanned.{tight_lanes}
use Rattle.vg_cost.proofs.shuffles.has_tight_lanes.Goals as goal

pub returns : goal.returns
returns c =
    let count = length c.as_slice-params.result.now in
    let lanes = c.args.description.now.lanes in
    c.are_tight_lanes.ensures
    ∙ ap (list_all (λ t. is_tight_lane count (tree t))) c.as_slice.ensures
    ∙ tight_lanes count lanes
    ∙ ap (λ ps. list_all (is_tight_lane (length ps)) (map tree lanes)) c.as_slice-params.ensures
