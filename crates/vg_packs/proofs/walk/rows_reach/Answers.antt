use Rattle.std.proofs.Common.{ℕ, Bool, ◌<◌, ◌∙◌, All, arith, false, get_or, length, refl, subst, sym}
use Rattle.vg_shapes.specs.DepList.{row_of}
use Rattle.vg_packs.specs.Marks.{AreMarks}
use Rattle.vg_packs.specs.Walk.{HasWay, IsApart, is_in_plan, node_needs}
use Rattle.vg_packs.proofs.Cycles.{all-from}
use Rattle.vg_packs.proofs.NodeUnits.{row-units}
use Rattle.vg_packs.proofs.Rows.{rows-all, rows-more, rows-none, rows-settled, rows-way}
use Rattle.vg_packs.proofs.walk.rows_reach.Goals as goal

pub units-init : goal.units-init
units-init c = (
  rows-none (node_needs c.args.table.now c.args.ssa.now c.args.deps.now c.args.plan.now) (λ v. get_or c.args.own.now v false)
      (row_of c.args.deps.now) c.args.marks.now c.requires.settled,
  refl,
)

pub walk_down-requires-clause-packed : goal.walk_down-requires-clause-packed
walk_down-requires-clause-packed c =
    subst (λ n. AreMarks n (is_in_plan c.args.plan.now) c.args.packed.now) (sym c.units.invariant.1) c.requires.packed

pub walk_down-requires-clause-units_inside : goal.walk_down-requires-clause-units_inside
walk_down-requires-clause-units_inside c = λ v u.
    subst (λ m. v < m) (sym c.units.invariant.1) (c.requires.units_inside v u)

pub walk_down-requires-clause-starts_inside : goal.walk_down-requires-clause-starts_inside
walk_down-requires-clause-starts_inside c =
    let u = get_or c.args.units.now c.units.unit-index 0 in
    subst (λ l. All (λ x. x < length c.units.marks) l) (sym c.row-row.ensures)
    (all-from (length c.units.marks) (row_of c.args.deps.now u) (λ x h.
    subst (λ m. x < m) (sym c.units.invariant.1)
    (c.requires.units_inside x (row-units c.args.table.now c.args.ssa.now c.args.deps.now c.requires.names u x h))))

pub walk_down-requires-clause-settled : goal.walk_down-requires-clause-settled
walk_down-requires-clause-settled c =
    rows-settled (node_needs c.args.table.now c.args.ssa.now c.args.deps.now c.args.plan.now) (λ v. get_or c.args.own.now v false)
    (row_of c.args.deps.now) _ c.units.marks c.units.invariant.0

pub units-preserved : goal.units-preserved
units-preserved c =
    let ns = node_needs c.args.table.now c.args.ssa.now c.args.deps.now c.args.plan.now in
    let own : ℕ → Bool = λ v. get_or c.args.own.now v false in
    let u = get_or c.args.units.now c.units.unit-index 0 in (
      rows-more ns own (row_of c.args.deps.now) c.args.units.now c.units.unit-index u c.units.marks c.walk_down.new.marks
          c.units-test.true refl c.units.invariant.0
          (subst (λ l. IsApart ns own l c.walk_down.new.marks) c.row-row.ensures (c.in_ok-reached.ensures.apart c.if-reached.false))
          (c.in_ok-reached.ensures.kept c.if-reached.false),
      c.walk_down.auto.marks ∙ c.units.invariant.1,
    )

pub returns-then-reached-clause-way : goal.returns-then-reached-clause-way
returns-then-reached-clause-way c = λ t.
    let ns = node_needs c.args.table.now c.args.ssa.now c.args.deps.now c.args.plan.now in
    let own : ℕ → Bool = λ v. get_or c.args.own.now v false in
    let u = get_or c.args.units.now c.units.unit-index 0 in
    rows-way ns own (row_of c.args.deps.now) c.args.units.now c.units.unit-index u c.units-test.true refl
    (subst (λ l. HasWay ns own l) c.row-row.ensures (c.in_ok-reached.ensures.way c.if-reached.true))

pub returns-clause-apart : goal.returns-clause-apart
returns-clause-apart c = λ t.
    rows-all (node_needs c.args.table.now c.args.ssa.now c.args.deps.now c.args.plan.now) (λ v. get_or c.args.own.now v false)
    (row_of c.args.deps.now) c.args.units.now c.units.unit-index c.units.marks (omega (arith, c.units-test.false)) c.units.invariant.0
