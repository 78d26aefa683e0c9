use Rattle.std.proofs.Common.{refl, map}
use Rattle.vg_kernel.specs.Tree.{tree_of}
use Rattle.vg_shapes.specs.Description.{description_of}
use Rattle.vg_compile.proofs.Whole.{planned-by}
use Rattle.vg_compile.proofs.planning.plan_described.Goals as goal

pub returns-clause-plan : goal.returns-clause-plan
returns-clause-plan c =
    let planned = c.in_ok-planned.planned in
    let ds = map description_of c.args.descriptions.now in
    (λ entries set described. planned-by entries set (tree_of c.args.kernel.now) c.args.width
    c.in_ok-ssa.ssa ds ds planned.chosen.table planned.chosen.plan planned.cost planned.plain
    refl c.in_ok-ssa.ensures.exact c.in_ok-ssa.ensures.uncut described.all c.in_ok-planned.ensures.planned)
