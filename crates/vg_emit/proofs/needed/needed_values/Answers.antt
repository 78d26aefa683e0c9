use Rattle.std.proofs.Common.{◌≡◌, ◌∙◌, ap, sym, subst}
use Rattle.std.specs.Prelude.{false, replicate}
use Rattle.vg_shapes.specs.Nodes.{packed}
use Rattle.vg_kernel_plans.specs.Packing.{falling_units}
use Rattle.vg_emission.specs.Program.{all_inserted, needed_behind}
use Rattle.vg_emit.specs.Marks.{Mark, marked, with_uses_below}
use Rattle.vg_emit.proofs.Marking.{needed-marks}
use Rattle.vg_emit.proofs.needed.needed_values.Goals as goal

pub returns : goal.returns
returns c =
    let ssa = c.args.ssa.now in
    let wanted = all_inserted c.args.recipes.now c.args.operands.now in
    let n = c.count_values-count.result in
    let packs : c.mark_packs.new.self ≡ marked (replicate n false) (packed c.args.packs.now) = c.mark_packs.ensures ∙ ap (λ m. marked m (packed c.args.packs.now)) c.in_ok-packed.ensures in
    let marks : c.mark_all_inserted.new.marks ≡ marked (replicate n false) wanted = c.in_ok-mark_all_inserted.ensures ∙ ap (λ m. marked m wanted) c.in_ok-needed.ensures in
    let all : c.mark_all_uses.new.marks ≡ with_uses_below ssa (marked (replicate n false) (packed c.args.packs.now)) (marked (replicate n false) wanted) n =
    c.mark_all_uses.ensures ∙ (λ i. with_uses_below ssa (packs i) (marks i) n)
    in
    subst (λ k. Mark k c.mark_all_uses.new.marks (needed_behind ssa c.args.packs.now wanted (falling_units ssa))) c.count_values-count.ensures
    (subst (λ m. Mark n m (needed_behind ssa c.args.packs.now wanted (falling_units ssa))) (sym all)
    (needed-marks ssa c.args.packs.now n wanted c.count_values-count.ensures))
