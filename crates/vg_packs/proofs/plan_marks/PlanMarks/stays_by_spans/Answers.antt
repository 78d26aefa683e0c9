use Rattle.std.proofs.Common.{◌≡◌, ◌<◌, ◌⊎◌, Bool, List, false, get_or, length, subst}
use Rattle.vg_packs.proofs.Floors.{spans-floor, spans-inside}
use Rattle.vg_packs.proofs.plan_marks.PlanMarks.stays_by_spans.Goals as goal

pub stays_above-requires-clause-floor : goal.stays_above-requires-clause-floor
stays_above-requires-clause-floor c =
    let f = c.in_ok-floor.floor in
    let there =
    subst (λ (l : List Bool). (f ≡ 0) ⊎ ((f < length l) × (get_or l f false ≡ false))) c.marks.ensures c.in_ok-floor.ensures.there
    in
    spans-floor c.args.table.now c.args.ssa.now c.args.deps.now c.requires.earlier.earlier c.args.plan.now c.args.spans.now.spanned.items
    f c.args.pack.now c.requires.spans.spans c.in_ok-floor.ensures.lowest there

pub stays_above-requires-clause-inside : goal.stays_above-requires-clause-inside
stays_above-requires-clause-inside c =
    let f = c.in_ok-floor.floor in
    let there =
    subst (λ (l : List Bool). (f ≡ 0) ⊎ ((f < length l) × (get_or l f false ≡ false))) c.marks.ensures c.in_ok-floor.ensures.there
    in
    spans-inside c.args.table.now c.args.ssa.now c.args.deps.now c.args.spans.now.spanned.items f c.requires.spans.long there
