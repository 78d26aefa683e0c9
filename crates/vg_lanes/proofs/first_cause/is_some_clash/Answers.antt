use Rattle.std.proofs.Common.{sym, ap, ◌∙◌, subst, take, ◌+◌}
use Rattle.std.specs.List.{list_any}
use Rattle.vg_lanes.proofs.Clashes.{Looked, found-at, noted-at}
use Rattle.vg_lanes.proofs.first_cause.is_some_clash.Goals as goal

pub returns-then-clashes_with_any : goal.returns-then-clashes_with_any
returns-then-clashes_with_any c =
    sym (found-at c.args.leaves.now c.leaves.kept.items c.leaves.leaf-index _ c.leaves-test.true c.leaves.invariant
    (ap (list_any _) (sym c.as_slice.ensures.value) ∙ sym c.clashes_with_any.ensures ∙ c.if-clashes_with_any.true))

pub leaves-preserved : goal.leaves-preserved
leaves-preserved c =
    subst (λ r. Looked r (take (c.leaves.leaf-index + 1) c.args.leaves.now)) (sym c.in_ok-note.ensures)
    (noted-at c.args.leaves.now c.leaves.kept.items c.leaves.leaf-index _ c.leaves-test.true c.leaves.invariant
    (ap (list_any _) (sym c.as_slice.ensures.value) ∙ sym c.clashes_with_any.ensures ∙ c.if-clashes_with_any.false))
