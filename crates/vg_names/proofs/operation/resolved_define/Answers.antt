use Rattle.std.proofs.Common.{◌≡◌, ◌++◌, [], subst, map}
use Rattle.vg_pseudo.specs.Names.{bracketed, bracketed_in}
use Rattle.vg_pseudo.specs.Resolve.{define_register, define_scope}
use Rattle.vg_pseudo.specs.Tree.{define_of, expression_of, statements_of}
use Rattle.vg_names.specs.Naming.{Gives}
use Rattle.vg_names.specs.Pieces.{function_over}
use Rattle.vg_names.specs.Scopes.{scope_over}
use Rattle.vg_names.specs.Views.{function_view}
use Rattle.vg_names.proofs.ResolvingAll.{same_scope, function_is}
use Rattle.vg_names.proofs.operation.resolved_define.Goals as goal

pub returns : goal.returns
returns c =
    let d = define_of c.args.define.now in
    let before = c.args.before.now in
    let registers = c.in_ok-names.names.registers in
    let variables = c.in_ok-names.names.variables in
    let scope : scope_over registers variables before ≡ define_scope before d =
    same_scope (map define_register c.args.define.now.params)
    (bracketed_in [] (statements_of c.args.define.now.body) ++ bracketed [] (expression_of c.args.define.now.answer)) before (statements_of c.args.define.now.body)
    registers variables c.in_ok-names.ensures.registers c.in_ok-names.ensures.variables in
    subst (Gives function_view c.resolved_function.result) (function_is before d)
    (subst (λ s. Gives function_view c.resolved_function.result (function_over s d)) scope c.resolved_function.ensures)
