use Rattle.std.proofs.Common.{refl, map}
use Rattle.std.proofs.lemmas.Result.{IfOk-weaker}
use Rattle.vg_kernel.specs.Tree.{tree_of}
use Rattle.vg_shapes.specs.Description.{description_of}
use Rattle.vg_compile.specs.declared.rewriting.Rewriting.TheVariants.{Own}
use Rattle.vg_compile.proofs.More.{whole-is}
use Rattle.vg_compile.proofs.Whole.{explained-by}
use Rattle.vg_compile.proofs.explaining.explain_chosen.Goals as goal

pub returns : goal.returns
returns c =
    let k = tree_of c.args.kernel.now in
    let ssa = c.in_ok-ssa.ssa in
    let planned = c.in_ok-planned.planned in
    let ds = map description_of c.args.descriptions.now in
    IfOk-weaker c.lines_on.result _ _
    (λ text is entries set described. explained-by entries set k c.args.width _ ds ds Own
    (record { ssa = ssa; matches = planned.chosen.table; packs = planned.chosen.plan }) planned.cost planned.plain text.items
    refl described.all
    (whole-is ds k c.args.width ssa planned.chosen.table planned.chosen.plan planned.cost planned.plain (c.in_ok-ssa.ensures.exact, c.in_ok-ssa.ensures.uncut) c.in_ok-planned.ensures.planned)
    is)
    c.lines_on.ensures
