use Rattle.std.proofs.Common.{◌≡◌, ◌≤◌, ◌<◌, ◌∙◌, subst, ap, map, Some, Ok, arith}
use Rattle.std.specs.Option.{IfSome, option_map}
use Rattle.vg_pseudo.specs.Resolve.{all_resolved}
use Rattle.vg_pseudo.specs.Tree.{arguments_of}
use Rattle.vg_pseudo.specs.declared.expression.Arguments.{size-Arguments}
use Rattle.vg_names.specs.Naming.{all_behind, next_argument_of}
use Rattle.vg_names.specs.Views.{expr_of}
use Rattle.vg_names.proofs.Listing.{all_next}
use Rattle.vg_names.proofs.expressions.+expressions.Goals as goal

pub all_resolved-arguments-preserved : goal.all_resolved-arguments-preserved
all_resolved-arguments-preserved t c =
    let left = c.arguments.left.now in
    let rest = c.in-Ok-Some.rest.now in
    let less : size-Arguments rest < size-Arguments left =
    subst (λ o. IfSome o (λ p. size-Arguments p.1.now < size-Arguments left)) c.in-Ok-Some.field-0-is c.in-Ok-Some.ensures.inside in
    let read : next_argument_of c.args.scope.now (arguments_of left) ≡ Ok (Some (expr_of c.in-Ok-Some.first, arguments_of rest)) =
    subst (λ o. next_argument_of c.args.scope.now (arguments_of left) ≡ Ok (option_map (λ p. (expr_of p.0, arguments_of p.1.now)) o)) c.in-Ok-Some.field-0-is c.in-Ok-Some.ensures.read in
    let inside : size-Arguments rest ≤ size-Arguments c.args.arguments.now = omega (arith, less, c.arguments.invariant.inside) in
    record {
      same =
          ap (λ d. all_behind (map expr_of d) (all_resolved c.args.scope.now (arguments_of rest))) c.in_ok-push-in-Ok-Some.ensures.items
          ∙ all_next expr_of c.args.scope.now (arguments_of left) (arguments_of rest) c.arguments.done.items c.in-Ok-Some.first read
          ∙ c.arguments.invariant.same;
      inside = inside;
    }
