use Rattle.std.proofs.Common.{◌∙◌, ap, sym, map, take, replicate}
use Rattle.vg_names.specs.declared.forms.Forms.TheVariants.{Unseen}
use Rattle.vg_names.specs.Assigned.{assignment_view}
use Rattle.vg_names.specs.Distinct.{place_of}
use Rattle.vg_names.specs.Gathered.{gathered, changed, with_form}
use Rattle.vg_names.proofs.Gathering.{gathered_none, gathered_more}
use Rattle.vg_names.proofs.LastOfNames.{one_more_mapped}
use Rattle.vg_names.proofs.locals.forms_of.Goals as goal

pub assignments-init : goal.assignments-init
assignments-init c =
    c.in_ok-forms.ensures ∙ ap (λ n. replicate n Unseen) c.count.ensures.length ∙ sym (gathered_none with_form Unseen c.args.names.now)

pub assignments-preserved : goal.assignments-preserved
assignments-preserved c =
    let before = map assignment_view (take c.assignments.assignment-index c.args.assignments.now) in
    let a = assignment_view c.assignment-item.result in
    c.note_form.ensures
    ∙ ap (λ o. changed o (λ s. with_form s a) c.assignments.forms.items) c.place-local.ensures
    ∙ ap (changed (place_of c.args.names.now a.name) (λ s. with_form s a)) c.assignments.invariant
    ∙ sym (ap (gathered with_form Unseen c.args.names.now) (one_more_mapped assignment_view c.args.assignments.now c.assignments.assignment-index c.assignment-item.result c.assignments-test.true c.assignment-item.is)
    ∙ gathered_more with_form Unseen c.args.names.now before a c.count.ensures.distinct)
