use Rattle.std.proofs.Common.{map, refl}
use Rattle.vg_shapes.specs.Description.{description_of}
use Rattle.vg_gather.specs.Recipes.{holder}
use Rattle.vg_gather.proofs.ParameterSteps.{one_more}
use Rattle.vg_gather.proofs.shuffling.packs_from.Goals as goal

pub params-preserved : goal.params-preserved
params-preserved c =
    one_more (holder (map description_of c.args.descriptions.now) c.args.ssa.now c.args.packs.now)
    c.args.moved.now c.args.spare c.args.params.now c.params.parameter _ _ _ _ _
    c.params-test.true refl c.in_ok-pack.ensures c.in_ok-push.ensures.items c.params.invariant
