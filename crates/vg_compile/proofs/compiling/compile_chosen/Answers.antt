use Rattle.std.proofs.Common.{refl, map}
use Rattle.std.proofs.lemmas.Result.{IfOk-weaker}
use Rattle.vg_kernel.specs.Tree.{tree_of}
use Rattle.vg_shapes.specs.Description.{description_of}
use Rattle.vg_compile.proofs.Whole.{compiled-whole}
use Rattle.vg_compile.proofs.compiling.compile_chosen.Goals as goal

pub returns : goal.returns
returns c =
    let ds = map description_of c.args.descriptions.now in
    IfOk-weaker c.compile_units.result _ _
    (λ p is entries set described. compiled-whole entries set (tree_of c.args.kernel.now) c.args.width
    c.in_ok-ssa.ssa ds ds p refl c.requires.kernel (c.in_ok-ssa.ensures.exact, c.in_ok-ssa.ensures.uncut)
    c.in_ok-ssa.ensures.stands_for c.in_ok-ssa.ensures.sound
    described.all described.each described.proper is)
    c.compile_units.ensures
