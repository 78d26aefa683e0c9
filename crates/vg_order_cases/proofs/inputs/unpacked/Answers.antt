use Rattle.std.proofs.Common.{◌≡◌, List, ℕ, true, ap, subst, sym, ◌∙◌}
use Rattle.vg_shapes.specs.declared.pack.Pack.{Pack}
use Rattle.vg_shapes.specs.DepList.{pairs_from}
use Rattle.vg_shapes.specs.Nodes.{ArePacks}
use Rattle.vg_order.specs.ByList.{NameUnits}
use Rattle.vg_order_cases.specs.Inputs.{are_below}
use Rattle.vg_order_cases.proofs.Premises.{names-units, no-packs}
use Rattle.vg_order_cases.proofs.inputs.unpacked.Goals as goal

pub schedule-requires-clause-packs : goal.schedule-requires-clause-packs
schedule-requires-clause-packs c =
    subst (λ (l : List Pack). ArePacks c.in_ok-ssa.ssa l) (sym (c.from_vec-plan.ensures ∙ c.new.ensures.items)) (no-packs c.in_ok-ssa.ssa)

pub schedule-requires-clause-units : goal.schedule-requires-clause-units
schedule-requires-clause-units c =
    let below : are_below c.args.count c.args.rows.items ≡ true =
    sym (c.are_below.ensures ∙ ap (are_below c.args.count) c.as_slice.ensures.value) ∙ c.if-not-are_below.false in
    subst (NameUnits c.in_ok-ssa.ssa) (sym (c.from_rows-deps.ensures ∙ ap (pairs_from 0) c.from_vec.ensures))
    (names-units c.in_ok-ssa.ssa c.args.count c.args.rows.items c.in_ok-ssa.ensures below)
