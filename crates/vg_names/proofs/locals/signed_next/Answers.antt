use Rattle.std.proofs.Common.{◌∙◌, ◌||◌, ap, sym, map, take, replicate, false}
use Rattle.vg_pseudo.specs.Signs.{is_signed}
use Rattle.vg_names.specs.Assigned.{assignment_view}
use Rattle.vg_names.specs.Distinct.{place_of}
use Rattle.vg_names.specs.Gathered.{gathered, changed, with_sign, signs_of}
use Rattle.vg_names.specs.Registers.{register_view}
use Rattle.vg_names.proofs.Gathering.{gathered_none, gathered_more}
use Rattle.vg_names.proofs.LastOfNames.{one_more_mapped}
use Rattle.vg_names.proofs.locals.signed_next.Goals as goal

pub assignments-init : goal.assignments-init
assignments-init c =
    let signs = signs_of (map (λ r. register_view r.now) c.args.known.given.now) c.args.known.locals.now c.args.known.flags.now in
    c.in_ok-flags.ensures ∙ ap (λ n. replicate n false) c.count.ensures.length ∙ sym (gathered_none (with_sign signs) false c.args.known.locals.now)

pub assignments-preserved : goal.assignments-preserved
assignments-preserved c =
    let names = c.args.known.locals.now in
    let signs = signs_of (map (λ r. register_view r.now) c.args.known.given.now) names c.args.known.flags.now in
    let before = map assignment_view (take c.assignments.assignment-index c.args.assignments.now) in
    let a = assignment_view c.assignment-item.result in
    c.note_sign.ensures
    ∙ ap (λ x. changed c.place.result (λ b. b || x) c.assignments.flags.items) (c.is_signed-is_signed.ensures ∙ ap (λ ts. is_signed signs (map (λ t. t.now) ts) a.value) c.as_slice.ensures.value)
    ∙ ap (λ o. changed o (λ s. with_sign signs s a) c.assignments.flags.items) c.place.ensures
    ∙ ap (changed (place_of names a.name) (λ s. with_sign signs s a)) c.assignments.invariant
    ∙ sym (ap (gathered (with_sign signs) false names) (one_more_mapped assignment_view c.args.assignments.now c.assignments.assignment-index c.assignment-item.result c.assignments-test.true c.assignment-item.is)
    ∙ gathered_more (with_sign signs) false names before a c.count.ensures.distinct)
