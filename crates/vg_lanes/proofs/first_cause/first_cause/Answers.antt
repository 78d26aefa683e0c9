use Rattle.std.proofs.Common.{◌≡◌, sym, ◌∙◌, subst}
use Rattle.std.specs.Prelude.{IfOk}
use Rattle.vg_lanes.proofs.Lanes.{big-second, dynamic-first, leaves-third}
use Rattle.vg_lanes.proofs.first_cause.first_cause.Goals as goal

pub returns-then-is_any_dynamic : goal.returns-then-is_any_dynamic
returns-then-is_any_dynamic c =
    sym (dynamic-first c.args.lanes.now (sym c.is_any_dynamic.ensures ∙ c.if-is_any_dynamic.true))

pub returns-then-is_any_big : goal.returns-then-is_any_big
returns-then-is_any_big c =
    sym (big-second c.args.lanes.now (sym c.is_any_dynamic.ensures ∙ c.if-is_any_dynamic.false)
    (sym c.is_any_big.ensures ∙ c.if-is_any_big.true))

pub returns : goal.returns
returns c =
    subst (λ k. IfOk c.cause_of_leaves.result (λ cause. cause ≡ k))
    (leaves-third c.args.lanes.now c.as_slice.result.now (sym c.is_any_dynamic.ensures ∙ c.if-is_any_dynamic.false)
    (sym c.is_any_big.ensures ∙ c.if-is_any_big.false) (c.as_slice.ensures.value ∙ c.in_ok-leaves.ensures))
    c.cause_of_leaves.ensures
