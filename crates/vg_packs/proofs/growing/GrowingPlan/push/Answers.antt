use Rattle.std.proofs.Common.{◌≡◌, [], arith, length, subst, sym}
use Rattle.std.proofs.lemmas.List.{with_items_is}
use Rattle.std.specs.Vec.{with_items}
use Rattle.vg_plans.specs.World.{is_in}
use Rattle.vg_shapes.specs.Pack.{units_of}
use Rattle.vg_packs.specs.Floor.{MarksSpan}
use Rattle.vg_packs.specs.Marks.{AddsMarks}
use Rattle.vg_packs.proofs.Floors.{grown-more}
use Rattle.vg_packs.proofs.Turns.{stays-free}
use Rattle.vg_packs.proofs.growing.GrowingPlan.push.Goals as goal

pub returns-clause-grown : goal.returns-clause-grown
returns-clause-grown c =
    let old = c.args.self.now in
    let marks =
    subst (λ l. AddsMarks (λ v. is_in v (units_of c.args.pack)) l c.mark_pack.new.marks) c.as_mut_slice-2.ensures.value c.mark_pack.ensures
    in
    let span =
    subst (λ l. MarksSpan c.args.table.now c.args.ssa.now c.args.deps.now c.args.pack l c.mark_span.new.spanned) c.as_mut_slice.ensures.value
    c.in_ok-mark_span.ensures
    in
    let long : length c.mark_pack.new.marks ≡ length old.packed.items = marks.long in
    let wide : length c.mark_span.new.spanned ≡ length old.spanned.items = span.long in
    let packed = with_items_is old.packed c.mark_pack.new.marks (omega (arith, long, old.packed.ok.0)) in
    let spanned = with_items_is old.spanned c.mark_span.new.spanned (omega (arith, wide, old.spanned.ok.0)) in
    grown-more c.args.table.now c.args.ssa.now c.args.deps.now old
    (record {
      packs = c.push.new.self;
      packed = with_items old.packed c.mark_pack.new.marks;
      spanned = with_items old.spanned c.mark_span.new.spanned;
    })
    c.args.pack c.requires.grown c.in_ok-push.ensures.items
    (subst (λ l. AddsMarks (λ v. is_in v (units_of c.args.pack)) old.packed.items l) (sym packed) marks)
    (subst (λ l. MarksSpan c.args.table.now c.args.ssa.now c.args.deps.now c.args.pack old.spanned.items l) (sym spanned) span)
    (stays-free [] c.args.table.now c.args.ssa.now c.args.deps.now old.packs.items c.args.pack c.requires.stays)
