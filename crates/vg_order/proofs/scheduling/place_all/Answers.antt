use Rattle.std.proofs.Common.{ap, length, ◌∙◌}
use Rattle.vg_order.proofs.Rising.{all-ordered, empty-path, fresh-progress, rising-placed}
use Rattle.vg_order.proofs.scheduling.place_all.Goals as goal

pub place_units-requires-clause-valid : goal.place_units-requires-clause-valid
place_units-requires-clause-valid c =
    fresh-progress c.args.deps.now c.args.graph.now c.in_ok-progress.progress _ (ap length c.as_slice-count.ensures)
    c.in_ok-progress.ensures.order c.in_ok-progress.ensures.placed c.in_ok-progress.ensures.cursors

pub place_units-requires-clause-rest : goal.place_units-requires-clause-rest
place_units-requires-clause-rest c =
    empty-path c.args.graph.now c.in_ok-path.path _ (ap length c.as_slice-count.ensures) c.in_ok-path.ensures.units c.in_ok-path.ensures.on

pub returns-clause-order : goal.returns-clause-order
returns-clause-order c =
    all-ordered c.args.deps.now c.args.graph.now c.place_rest.new.progress c.in_ok-place_rest.ensures.valid c.in_ok-place_rest.ensures.placed

pub returns-clause-rising : goal.returns-clause-rising
returns-clause-rising c = λ r.
    let numbers = c.in_ok-place_units.ensures.rising r in
    c.in_ok-place_rest.ensures.same (rising-placed c.args.deps.now c.args.graph.now c.place_units.new.progress c.in_ok-place_units.ensures.valid numbers) ∙ numbers
