use Rattle.std.proofs.Common.{append-nil, ◌++◌, ◌∙◌, ap, sym}
use Rattle.std.specs.Prelude.{filter, not}
use Rattle.std.specs.List.{list_any}
use Rattle.vg_plans.proofs.Lists.{take-whole}
use Rattle.vg_packs.specs.Walk.{is_in_plan}
use Rattle.vg_shapes.specs.Pack.{units_of}
use Rattle.vg_beam.specs.BeamPlan.{is_apart}
use Rattle.vg_beam.specs.PackTable.{pack_at}
use Rattle.vg_beam.proofs.Growing.{filter-missed, filter-passed}
use Rattle.vg_beam.proofs.beam_plan.push_apart.Goals as goal
use Rattle.vg_beam.proofs.beam_plan.push_apart.Goals.{then-not-overlap+in_ok-push, else-not-overlap}

pub numbers-init : goal.numbers-init
numbers-init c = sym (append-nil c.args.apart.now.items)

pub numbers-preserved : goal.numbers-preserved
numbers-preserved c =
    elim c.if-not-overlap.branch [
      | then-not-overlap+in_ok-push w ↦
          filter-passed (λ n. is_apart c.args.plan.now (pack_at c.args.pack_table.now.packs.items n)) c.args.numbers.now c.args.apart.now.items
          c.numbers.apart.items c.if-not-overlap.apart.items c.numbers.number-index 0 c.numbers-test.true
          (ap not (ap (λ p. list_any (is_in_plan c.args.plan.now) (units_of p)) (sym c.pack.ensures) ∙ sym c.overlaps-overlap.ensures ∙ w.if-not-overlap.true))
          c.numbers.invariant (ap (λ v. v.items) w.apart-is ∙ w.in_ok-push.ensures.items)
      | else-not-overlap w ↦
          filter-missed (λ n. is_apart c.args.plan.now (pack_at c.args.pack_table.now.packs.items n)) c.args.numbers.now c.args.apart.now.items
          c.numbers.apart.items c.if-not-overlap.apart.items c.numbers.number-index 0 c.numbers-test.true
          (ap not (ap (λ p. list_any (is_in_plan c.args.plan.now) (units_of p)) (sym c.pack.ensures) ∙ sym c.overlaps-overlap.ensures ∙ w.if-not-overlap.false))
          c.numbers.invariant (ap (λ v. v.items) w.apart-is)
    ]

pub returns : goal.returns
returns c = c.numbers.invariant
    ∙ ap (λ l. c.args.apart.now.items ++ filter (λ n. is_apart c.args.plan.now (pack_at c.args.pack_table.now.packs.items n)) l)
    (take-whole c.numbers.number-index c.args.numbers.now c.numbers-test.false)
