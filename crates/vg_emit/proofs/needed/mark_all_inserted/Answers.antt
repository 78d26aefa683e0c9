use Rattle.std.proofs.Common.{◌<◌, ◌≤◌, ◌∙◌, length, arith, ap, sym}
use Rattle.std.specs.Prelude.{min}
use Rattle.vg_emit.specs.Marks.{marked}
use Rattle.vg_emit.proofs.Marking.{inserted-end, inserted-next}
use Rattle.vg_emit.proofs.needed.mark_all_inserted.Goals as goal

pub recipes-preserved : goal.recipes-preserved
recipes-preserved c =
    let inside : c.recipes.place < min (length c.args.recipes.now) (length c.args.operands.now) = omega (arith, c.min-count.ensures, c.recipes-test.true) in
    inserted-next c.recipes.marks c.mark_inserted.new.marks c.args.recipes.now c.args.operands.now c.recipes.place
    c.index-recipes-place.result c.index-operands-place.result (omega arith) (omega arith)
    c.index-recipes-place.is c.index-operands-place.is c.in_ok-mark_inserted.ensures
    ∙ c.recipes.invariant

pub returns : goal.returns
returns c =
    let past : min (length c.args.recipes.now) (length c.args.operands.now) ≤ c.recipes.place = omega (arith, c.min-count.ensures, c.recipes-test.false) in
    sym (ap (marked c.recipes.marks) (inserted-end c.args.recipes.now c.args.operands.now c.recipes.place past)) ∙ c.recipes.invariant
