-- An operation with its names resolved, without where it lies in memory.
use Rattle.std.specs.Prelude.{map, box_value}
use Rattle.vg_pseudo.specs.Resolved.{Expr, literal, counter, variable, slice, element, front, unary, binary, choice, call, Arguments, end, more, Target, bits, lane, whole, number, Code, stop, assign, skip, repeat, choose, way, last, pick, arm, Body, Function, Resolved}
use Rattle.vg_names.specs.declared.resolved.ResolvedExpr.{ResolvedExpr}
use Rattle.vg_names.specs.declared.resolved.ResolvedExpr.TheVariants as expr
use Rattle.vg_names.specs.declared.resolved.ResolvedArguments.{ResolvedArguments}
use Rattle.vg_names.specs.declared.resolved.ResolvedArguments.TheVariants as list
use Rattle.vg_names.specs.declared.resolved.Target as target
use Rattle.vg_names.specs.declared.resolved.Target.TheVariants as to
use Rattle.vg_names.specs.declared.resolved.Code as code
use Rattle.vg_names.specs.declared.resolved.Code.TheVariants as stmt
use Rattle.vg_names.specs.declared.resolved.Body as body
use Rattle.vg_names.specs.declared.resolved.Function as function
use Rattle.vg_names.specs.declared.resolved.Resolved as resolved

abbrev mutual
  pub expr_of : ResolvedExpr → Expr
  expr_of (expr.Literal s n) = literal s n
  expr_of (expr.Counter s k) = counter s k
  expr_of (expr.Variable s k) = variable s k
  expr_of (expr.Slice' s b r n p h q l) = slice s b r n (expr_of h) (expr_of l)
  expr_of (expr.Element' s b r n p k) = element s b r n (expr_of k)
  expr_of (expr.Front s b r n) = front s b r n
  expr_of (expr.Unary' s o p x) = unary s o (expr_of x)
  expr_of (expr.Binary' s o p x q y) = binary s o (expr_of x) (expr_of y)
  expr_of (expr.Choice' s p c q x r y) = choice s (expr_of c) (expr_of x) (expr_of y)
  expr_of (expr.Call' s f p a) = call s f (list_of a)

  pub list_of : ResolvedArguments → Arguments
  list_of list.End = end
  list_of (list.More' p x q a) = more (expr_of x) (list_of a)

abbrev pub target_view : target.Target → Target
target_view (to.Bits r h l) = bits r (expr_of (box_value h)) (expr_of (box_value l))
target_view (to.Lane r n k) = lane r n (expr_of (box_value k))
target_view (to.Whole r n) = whole r n
target_view (to.Number k) = number k

abbrev pub code_view : code.Code → Code
code_view stmt.Stop = stop
code_view (stmt.Assign' p t e q s) = assign p (target_view t) (expr_of (box_value e)) (code_view s)
code_view (stmt.Skip' p q s) = skip p (code_view s)
code_view (stmt.Repeat' p a b q c r s) =
    repeat p (expr_of (box_value a)) (expr_of (box_value b)) (code_view c) (code_view s)
code_view (stmt.Choose' p w q s) = choose (code_view w) (code_view s)
code_view (stmt.Way' c p s q w) = way (expr_of (box_value c)) (code_view s) (code_view w)
code_view (stmt.Last' p s) = last (code_view s)
code_view (stmt.Pick' e p a q s) = pick (expr_of (box_value e)) (code_view a) (code_view s)
code_view (stmt.Arm' n p s q a) = arm n (code_view s) (code_view a)

abbrev pub body_of : body.Body → Body
body_of b = record {
  widths = b.widths;
  parameters = b.parameters;
  numbers = b.numbers;
  code = code_view b.code;
}

abbrev pub function_view : function.Function → Function
function_view f = record { body = body_of f.body; answer = expr_of f.answer }

abbrev pub resolved_of : resolved.Resolved → Resolved
resolved_of r = record {
  functions = map function_view r.functions;
  body = body_of r.body;
  result = r.result;
}
