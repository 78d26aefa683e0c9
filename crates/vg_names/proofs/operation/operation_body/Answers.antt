use Rattle.std.proofs.Common.{◌≡◌, ◌∙◌, ◌++◌, ◌∷◌, [], ap, subst, length}
use Rattle.vg_pseudo.specs.Names.{bracketed_in, distinct_behind}
use Rattle.vg_pseudo.specs.Resolve.{result_register, scope_of}
use Rattle.vg_pseudo.specs.Tree.{statements_of}
use Rattle.vg_names.specs.Marks.{marked_in}
use Rattle.vg_names.specs.Naming.{Gives}
use Rattle.vg_names.specs.Pieces.{body_over}
use Rattle.vg_names.specs.Scopes.{scope_over}
use Rattle.vg_names.specs.Views.{body_of}
use Rattle.vg_names.proofs.Marking.{marked_in_is}
use Rattle.vg_names.proofs.ResolvingAll.{names_registers, names_variables, same_scope}
use Rattle.vg_names.proofs.operation.operation_body.Goals as goal

pub returns : goal.returns
returns c =
    let body = statements_of c.args.body.now in
    let given = c.args.operands ++ result_register c.args.header.now ∷ [] in
    let marks = bracketed_in [] body in
    let eg : c.in_ok-given.given ≡ given = c.in_ok-given.ensures ∙ ap (λ r. c.args.operands ++ r ∷ []) c.in_ok-result.ensures in
    let em : c.mark_in.new.names ≡ distinct_behind [] marks = c.in_ok-mark_in.ensures ∙ ap (marked_in [] body) c.new-marked.ensures ∙ marked_in_is [] body [] in
    let registers = c.in_ok-names.names.registers in
    let variables = c.in_ok-names.names.variables in
    let scope : scope_over registers variables c.args.functions.now ≡ scope_of given marks c.args.functions.now body =
    same_scope given marks c.args.functions.now body registers variables
    (names_registers given c.in_ok-given.given marks c.mark_in.new.names body registers eg em c.in_ok-names.ensures.registers)
    (names_variables given c.in_ok-given.given marks c.mark_in.new.names body variables eg em c.in_ok-names.ensures.variables) in
    subst (λ s. Gives body_of c.resolved_body.result (body_over (length c.args.operands) s body)) scope
    (subst (λ n. Gives body_of c.resolved_body.result (body_over n (scope_over registers variables c.args.functions.now) body)) c.count-count.ensures c.resolved_body.ensures)
