use Rattle.std.proofs.Common.{ap, sym, ◌∙◌}
use Rattle.vg_order.specs.Needs.{flag_at}
use Rattle.vg_order.proofs.NextNumbers.{rest-visited}
use Rattle.vg_order.proofs.scheduling.place_last.Goals as goal

pub returns-in_ok-visit-clause-next : goal.returns-in_ok-visit-clause-next
returns-in_ok-visit-clause-next c =
    rest-visited c.args.deps.now c.args.graph.now c.args.progress.now c.visit.new.progress c.args.node c.in_ok-visit.field-0
    c.requires.graph c.requires.valid c.requires.units c.requires.below
    (sym (c.flag_at.ensures ∙ ap (λ l. flag_at l c.args.node) c.as_slice.ensures.value) ∙ c.if-not-flag_at.true)
    c.requires.next c.in_ok-visit.ensures.visits
