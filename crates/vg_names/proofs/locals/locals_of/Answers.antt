use Rattle.std.proofs.Common.{◌∷◌, [], ◌∙◌, ap, sym, map, take}
use Rattle.std.proofs.lemmas.List.{map-append}
use Rattle.vg_pseudo.specs.Names.{distinct_behind}
use Rattle.vg_names.specs.Assigned.{assignment_view}
use Rattle.vg_names.specs.Distinct.{with_name}
use Rattle.vg_names.proofs.Marking.{behind_both}
use Rattle.vg_names.proofs.LastOfNames.{one_more_mapped}
use Rattle.vg_names.proofs.locals.locals_of.Goals as goal

pub assignments-preserved : goal.assignments-preserved
assignments-preserved c =
    c.in_ok-add.ensures
    ∙ ap (λ ns. with_name ns c.assignment-item.result.name.now) c.assignments.invariant
    ∙ sym (ap (λ ns. distinct_behind [] ns)
    (ap (map (λ a. a.name)) (one_more_mapped assignment_view c.args.assignments.now c.assignments.assignment-index c.assignment-item.result c.assignments-test.true c.assignment-item.is)
    ∙ map-append (λ a. a.name) (map assignment_view (take c.assignments.assignment-index c.args.assignments.now)) (assignment_view c.assignment-item.result ∷ []))
    ∙ behind_both [] (map (λ a. a.name) (map assignment_view (take c.assignments.assignment-index c.args.assignments.now))) (c.assignment-item.result.name.now ∷ []))
