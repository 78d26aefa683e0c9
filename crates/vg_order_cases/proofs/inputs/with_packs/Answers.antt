use Rattle.std.proofs.Common.{◌≡◌, ◌++◌, List, ℕ, true, ap, subst, sym, ◌∙◌}
use Rattle.vg_shapes.specs.declared.pack.Pack.{Pack}
use Rattle.vg_shapes.specs.DepList.{pairs_from}
use Rattle.vg_shapes.specs.Nodes.{ArePacks}
use Rattle.vg_order.specs.ByList.{NameUnits}
use Rattle.vg_order_cases.specs.Inputs.{are_below, are_once}
use Rattle.vg_order_cases.proofs.Premises.{names-units, two-packs}
use Rattle.vg_order_cases.proofs.inputs.with_packs.Goals as goal

pub schedule-requires-clause-packs : goal.schedule-requires-clause-packs
schedule-requires-clause-packs c =
    let first = c.args.first.now in
    let second = c.args.second.now in
    let all : c.as_slice.result.now ≡ first ++ second =
    c.as_slice.ensures.value ∙ c.in_ok-extend_from_slice.ensures.items ∙ ap (λ (l : List ℕ). l ++ second) c.in_ok-all.ensures.items in
    let once : are_once c.args.count (first ++ second) ≡ true = sym (c.are_once.ensures ∙ ap (are_once c.args.count) all) ∙ c.if-not-are_once.false in
    subst (λ (l : List Pack). ArePacks c.in_ok-ssa.ssa l) (sym c.in_ok-plan.ensures) (two-packs c.in_ok-ssa.ssa c.args.count first second c.in_ok-ssa.ensures once)

pub schedule-requires-clause-units : goal.schedule-requires-clause-units
schedule-requires-clause-units c =
    let below : are_below c.args.count c.args.rows.items ≡ true =
    sym (c.are_below.ensures ∙ ap (are_below c.args.count) c.as_slice-else-not-are_once.ensures.value) ∙ c.if-not-are_below.false in
    subst (NameUnits c.in_ok-ssa.ssa) (sym (c.from_rows-deps.ensures ∙ ap (pairs_from 0) c.from_vec.ensures))
    (names-units c.in_ok-ssa.ssa c.args.count c.args.rows.items c.in_ok-ssa.ensures below)
