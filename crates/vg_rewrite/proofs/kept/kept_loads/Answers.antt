use Rattle.std.proofs.Common.{◌≡◌, ◌+◌, ◌<◌, length, arith, subst, sym}
use Rattle.std.proofs.lemmas.List.{with_items_is}
use Rattle.vg_rewrite.specs.Marks.{AddsMarks, MarkedSoFar, keeps, numbers}
use Rattle.vg_rewrite.proofs.Marking.{marks-more}
use Rattle.vg_shapes.specs.Units.{arguments}
use Rattle.vg_rewrite.proofs.kept.kept_loads.Goals as goal

pub values-preserved : goal.values-preserved
values-preserved c =
    let ssa = c.args.ssa.now in
    let old = c.values.marks in
    let marks = subst (λ l. AddsMarks (keeps ssa c.values.value) l c.mark_kept.new.marks) c.as_mut_slice.ensures.value c.mark_kept.ensures in
    let long : length c.mark_kept.new.marks ≡ length old.items = marks.long in
    let same = with_items_is old c.mark_kept.new.marks (omega (arith, long, old.ok.0)) in
    let low : c.values.value < numbers ssa = (let test = c.values-test.true in let count = c.count_values-count.ensures.is in omega arith) in
    subst (MarkedSoFar (keeps ssa) (numbers ssa) (arguments ssa) (c.values.value + 1)) (sym same)
    (marks-more (keeps ssa) (numbers ssa) (arguments ssa) c.values.value old.items c.mark_kept.new.marks low c.values.invariant marks)
