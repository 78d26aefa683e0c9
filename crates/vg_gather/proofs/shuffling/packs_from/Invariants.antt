use Rattle.std.proofs.Common.{◌≡◌, ◌++◌, drop, map}
use Rattle.vg_shapes.specs.Description.{description_of}
use Rattle.vg_gather.specs.Recipes.{holder, packs_from}
use Rattle.vg_gather.proofs.shuffling.packs_from.Given as goal

abbrev pub invariant-params : goal.invariant-params
invariant-params l =
    let held = holder (map description_of l.descriptions) l.ssa l.packs in
    l.taken.items ++ packs_from held l.moved l.spare l.parameter (drop l.parameter l.params)
    ≡ packs_from held l.moved l.spare 0 l.params
