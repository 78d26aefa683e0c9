use Rattle.std.proofs.Common.{◌≡◌, ◌≤◌, ◌<◌, ◌∙◌, subst, ap, map, Some, Ok, arith}
use Rattle.std.specs.Option.{IfSome, option_map}
use Rattle.vg_pseudo.specs.Resolve.{code_of}
use Rattle.vg_pseudo.specs.Tree.{statements_of}
use Rattle.vg_pseudo.specs.declared.statement.Stmt.{size-Stmt}
use Rattle.vg_names.specs.Pieces.{behind, code_done, next_of}
use Rattle.vg_names.proofs.Stepping.{done_next}
use Rattle.vg_names.proofs.code.+code.Goals as goal

pub code_of-statements-preserved : goal.code_of-statements-preserved
code_of-statements-preserved t c =
    let left = c.statements.left.now in
    let rest = c.in-Ok-Some.rest.now in
    let less : size-Stmt rest < size-Stmt left =
    subst (λ o. IfSome o (λ p. size-Stmt p.1.now < size-Stmt left)) c.in-Ok-Some.field-0-is c.in-Ok-Some.ensures.inside in
    let read : next_of c.args.scope.now (statements_of left) ≡ Ok (Some (behind c.in-Ok-Some.piece, statements_of rest)) =
    subst (λ o. next_of c.args.scope.now (statements_of left) ≡ Ok (option_map (λ p. (behind p.0, statements_of p.1.now)) o)) c.in-Ok-Some.field-0-is c.in-Ok-Some.ensures.read in
    let inside : size-Stmt rest ≤ size-Stmt c.args.code.now = omega (arith, less, c.statements.invariant.inside) in
    record {
      same =
          ap (λ d. code_done (map behind d) (code_of c.args.scope.now (statements_of rest))) c.in_ok-push-in-Ok-Some.ensures.items
          ∙ done_next behind c.args.scope.now (statements_of left) (statements_of rest) c.statements.done.items c.in-Ok-Some.piece read
          ∙ c.statements.invariant.same;
      inside = inside;
    }
