use Rattle.std.proofs.Common.{◌≡◌, ◌∙◌, ◌++◌, [], ap, sym, subst, map, length, filter}
use Rattle.std.proofs.lemmas.List.{length-map}
use Rattle.vg_pseudo.specs.Names.{assignments}
use Rattle.vg_pseudo.specs.Resolve.{local_assignments, locals_of, register_assignments}
use Rattle.vg_pseudo.specs.Tree.{statements_of}
use Rattle.vg_names.specs.Assigned.{assignment_view, is_local}
use Rattle.vg_names.specs.Bodies.{registers_from}
use Rattle.vg_names.specs.Distinct.{AreDistinct}
use Rattle.vg_names.specs.declared.forms.Forms.TheVariants.{Unseen}
use Rattle.vg_names.specs.Gathered.{gathered, signed_after, with_form}
use Rattle.vg_names.specs.Registers.{has_sign}
use Rattle.vg_names.proofs.SortingLocals.{if_ok, registers_in_all, variables_in_all}
use Rattle.vg_names.proofs.body_names.body_names.Goals as goal

pub returns-clause-registers : goal.returns-clause-registers
returns-clause-registers c =
    let ea : map assignment_view c.collect.new.found.items ≡ local_assignments c.args.given (statements_of c.args.body.now) =
    c.in_ok-collect.ensures ∙ ap (λ xs. map assignment_view xs ++ filter (is_local c.args.given) (assignments [] (statements_of c.args.body.now))) c.new-assignments.ensures.items in
    let as' = map assignment_view c.collect.new.found.items in
    let items = c.keep_register_assignments.new.assignments.items in
    let kept = map assignment_view items in
    let ek : kept ≡ register_assignments c.args.marked.now as' = c.keep_register_assignments.ensures in
    let names = c.in_ok-locals.locals in
    let en : names ≡ locals_of as' = c.in_ok-locals.ensures ∙ ap (λ xs. locals_of (map assignment_view xs)) c.as_slice.ensures.value in
    let signed = filter has_sign c.args.given in
    let ef : c.in_ok-flags.flags.items ≡ signed_after signed names kept (length c.as_slice-2.result.now) =
    c.in_ok-flags.ensures ∙ ap (λ xs. signed_after signed names (map assignment_view xs) (length c.as_slice-2.result.now)) c.as_slice-2.ensures.value in
    let ec : length c.as_slice-2.result.now ≡ length kept = ap length c.as_slice-2.ensures.value ∙ sym (length-map items assignment_view) in
    let eg : c.in_ok-forms.forms.items ≡ gathered with_form Unseen names kept =
    c.in_ok-forms.ensures ∙ ap (λ xs. gathered with_form Unseen names (map assignment_view xs)) c.as_slice-3.ensures.value in
    let d : AreDistinct names = subst AreDistinct c.locals.view_is c.locals.invariant in
    if_ok (λ b h. registers_in_all c.args.given c.args.marked.now (statements_of c.args.body.now) as' kept names _ _ (length c.as_slice-2.result.now) b.registers ea ek en ef ec eg d
    (h ∙ ap (λ fs. c.args.given ++ registers_from c.args.marked.now fs c.as_slice-5.result.now 0 names) c.as_slice-4.ensures.value
    ∙ ap (λ fs. c.args.given ++ registers_from c.args.marked.now c.in_ok-flags.flags.items fs 0 names) c.as_slice-5.ensures.value))
    c.with_locals.result c.with_locals.ensures.registers

pub returns-clause-variables : goal.returns-clause-variables
returns-clause-variables c =
    let ea : map assignment_view c.collect.new.found.items ≡ local_assignments c.args.given (statements_of c.args.body.now) =
    c.in_ok-collect.ensures ∙ ap (λ xs. map assignment_view xs ++ filter (is_local c.args.given) (assignments [] (statements_of c.args.body.now))) c.new-assignments.ensures.items in
    let as' = map assignment_view c.collect.new.found.items in
    let names = c.in_ok-locals.locals in
    let en : names ≡ locals_of as' = c.in_ok-locals.ensures ∙ ap (λ xs. locals_of (map assignment_view xs)) c.as_slice.ensures.value in
    let d : AreDistinct names = subst AreDistinct c.locals.view_is c.locals.invariant in
    if_ok (λ b h. variables_in_all c.args.given c.args.marked.now (statements_of c.args.body.now) as' names b.variables ea en d h)
    c.with_locals.result c.with_locals.ensures.variables
