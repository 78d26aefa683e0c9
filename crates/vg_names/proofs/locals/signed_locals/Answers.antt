use Rattle.std.proofs.Common.{◌≡◌, ◌<◌, ◌∙◌, ap, sym, map, length, suc, arith, ◌+◌, ◌-◌}
use Rattle.std.specs.Cmp.{booleans_Decides}
use Rattle.std.proofs.lemmas.Slice.Eq.{slice_eq-Decides}
use Rattle.vg_names.specs.Assigned.{assignment_view}
use Rattle.vg_names.specs.Gathered.{signed_after, signed_next}
use Rattle.vg_names.specs.Registers.{register_view}
use Rattle.vg_names.proofs.Signing.{rests}
use Rattle.vg_names.proofs.locals.signed_locals.Goals as goal

pub returns-then-eq : goal.returns-then-eq
returns-then-eq c =
    let given = map (λ r. register_view r.now) c.args.given.now in
    let names = c.args.locals.now in
    let as' = map assignment_view c.args.assignments.now in
    let step = c.steps._step in
    let same : c.in_ok-next.next.items ≡ c.steps.flags.items =
    sym c.as_slice-in-steps.ensures.value
    ∙ (slice_eq-Decides booleans_Decides _ _ c.eq.result c.eq.ensures).0 c.if-eq.true
    ∙ c.as_slice-in-steps-2.ensures.value in
    let next : signed_next given names as' c.steps.flags.items ≡ c.steps.flags.items =
    sym (c.in_ok-next.ensures ∙ ap (signed_next given names as') c.as_slice.ensures.value) ∙ same in
    let before : step < length c.args.assignments.now = c.steps-test.true in
    let left : (length c.args.assignments.now - step) + step ≡ length c.args.assignments.now = omega (arith, before) in
    c.steps.invariant
    ∙ sym (ap (signed_after given names as') (sym left)
    ∙ rests given names as' step (ap (signed_next given names as') (sym c.steps.invariant) ∙ next ∙ c.steps.invariant) (length c.args.assignments.now - step))

pub steps-preserved : goal.steps-preserved
steps-preserved c =
    let given = map (λ r. register_view r.now) c.args.given.now in
    let as' = map assignment_view c.args.assignments.now in
    let next : c.steps._step + 1 ≡ suc c.steps._step = omega arith in
    c.in_ok-next.ensures
    ∙ ap (signed_next given c.args.locals.now as') (c.as_slice.ensures.value ∙ c.steps.invariant)
    ∙ ap (signed_after given c.args.locals.now as') (sym next)
