use Rattle.std.proofs.Common.{◌≡◌, ◌+◌, ◌<◌, length, arith, subst, sym}
use Rattle.std.proofs.lemmas.List.{with_items_is}
use Rattle.vg_rewrite.specs.Marks.{AddsMarks, MarkedSoFar, numbers}
use Rattle.vg_rewrite.specs.Repeated.{takes}
use Rattle.vg_rewrite.proofs.Marking.{marks-more}
use Rattle.vg_shapes.specs.Units.{arguments}
use Rattle.vg_rewrite.proofs.kept.used_values.Goals as goal

pub users-preserved : goal.users-preserved
users-preserved c =
    let ssa = c.args.ssa.now in
    let old = c.users.marks in
    let marks = subst (λ l. AddsMarks (takes ssa c.users.user) l c.mark_taken.new.marks) c.as_mut_slice.ensures.value c.mark_taken.ensures in
    let long : length c.mark_taken.new.marks ≡ length old.items = marks.long in
    let same = with_items_is old c.mark_taken.new.marks (omega (arith, long, old.ok.0)) in
    let low : c.users.user < numbers ssa = (let test = c.users-test.true in let count = c.count_values-count.ensures.is in omega arith) in
    subst (MarkedSoFar (takes ssa) (numbers ssa) (arguments ssa) (c.users.user + 1)) (sym same)
    (marks-more (takes ssa) (numbers ssa) (arguments ssa) c.users.user old.items c.mark_taken.new.marks low c.users.invariant marks)
