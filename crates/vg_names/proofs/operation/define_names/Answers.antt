use Rattle.std.proofs.Common.{◌≡◌, ◌∙◌, ◌++◌, [], ap, sym, map}
use Rattle.vg_pseudo.specs.Names.{bracketed, bracketed_in, distinct_behind}
use Rattle.vg_pseudo.specs.Resolve.{define_register}
use Rattle.vg_pseudo.specs.Tree.{expression_of, statements_of}
use Rattle.vg_names.specs.Marks.{marked, marked_in}
use Rattle.vg_names.proofs.Marking.{behind_both, marked_is, marked_in_is}
use Rattle.vg_names.proofs.ResolvingAll.{names_registers, names_variables}
use Rattle.vg_names.proofs.SortingLocals.{if_ok}
use Rattle.vg_names.proofs.operation.define_names.Goals as goal

given-is : (c : goal.After-drop-marked-inside-5) → c.in_ok-given.given ≡ map define_register c.args.define.now.params
given-is c = c.in_ok-given.ensures ∙ ap (map define_register) c.as_slice.ensures

marks-are : (c : goal.After-drop-marked-inside-5)
    → c.mark.new.names ≡ distinct_behind [] (bracketed_in [] (statements_of c.args.define.now.body) ++ bracketed [] (expression_of c.args.define.now.answer))
marks-are c =
    c.in_ok-mark.ensures
    ∙ ap (marked [] (expression_of c.args.define.now.answer)) (c.in_ok-mark_in.ensures ∙ ap (marked_in [] (statements_of c.args.define.now.body)) c.new-marked.ensures
    ∙ marked_in_is [] (statements_of c.args.define.now.body) [])
    ∙ marked_is [] (expression_of c.args.define.now.answer) (distinct_behind [] (bracketed_in [] (statements_of c.args.define.now.body)))
    ∙ sym (behind_both [] (bracketed_in [] (statements_of c.args.define.now.body)) (bracketed [] (expression_of c.args.define.now.answer)))

pub returns-clause-registers : goal.returns-clause-registers
returns-clause-registers c =
    if_ok (λ b h. names_registers _ c.in_ok-given.given _ c.mark.new.names (statements_of c.args.define.now.body) b.registers (given-is c) (marks-are c) h)
    c.body_names.result c.body_names.ensures.registers

pub returns-clause-variables : goal.returns-clause-variables
returns-clause-variables c =
    if_ok (λ b h. names_variables _ c.in_ok-given.given _ c.mark.new.names (statements_of c.args.define.now.body) b.variables (given-is c) (marks-are c) h)
    c.body_names.result c.body_names.ensures.variables
