-- An operation as data: what the types of the code hold, without where it lies in memory.
use Rattle.std.specs.Prelude.{ℕ, List, map}
use Rattle.vg_base.specs.declared.width.Width.{Width}
use Rattle.vg_text.specs.declared.place.Place.{Place}
use Rattle.vg_pseudo.specs.declared.spot.Spot.{Spot}
use Rattle.vg_pseudo.specs.declared.operators.UnaryOp.{UnaryOp}
use Rattle.vg_pseudo.specs.declared.operators.BinaryOp.{BinaryOp}
use Rattle.vg_pseudo.specs.declared.expression.Expr.{Expr}
use Rattle.vg_pseudo.specs.declared.expression.Expr.TheVariants as expr
use Rattle.vg_pseudo.specs.declared.expression.Arguments as arguments
use Rattle.vg_pseudo.specs.declared.expression.Arguments.TheVariants as list
use Rattle.vg_pseudo.specs.declared.statement.Stmt.{Stmt}
use Rattle.vg_pseudo.specs.declared.statement.Stmt.TheVariants as stmt
use Rattle.vg_pseudo.specs.declared.operation.Define as define
use Rattle.vg_pseudo.specs.declared.operation.DefineParam.{DefineParam}
use Rattle.vg_pseudo.specs.declared.operation.Operation as operation

-- A name is the list of its bytes. `slice` has its high and its low index; `part` is the form `name.elem`.
mutual
  pub data Expression : Type 0 where
    number : Spot → ℕ → Expression
    name : Spot → List ℕ → Expression
    slice : Spot → List ℕ → Expression → Expression → Expression
    bit : Spot → List ℕ → Expression → Expression
    element : Spot → List ℕ → Width → Expression → Expression
    part : Spot → List ℕ → Width → Expression
    unary : Spot → UnaryOp → Expression → Expression
    binary : Spot → BinaryOp → Expression → Expression → Expression
    choice : Spot → Expression → Expression → Expression → Expression
    call : Spot → List ℕ → Arguments → Expression

  pub data Arguments : Type 0 where
    end : Arguments
    more : Expression → Arguments → Arguments

-- Statements, each with those after it. `choose` is an IF, by its ways: `way`s, then `last`. `pick` is a CASE, by its
-- arms: `arm`s, then `stop`.
pub data Statements : Type 0 where
  stop : Statements
  assign : Place → Expression → Expression → Statements → Statements
  above : Place → List ℕ → Expression → Expression → Statements → Statements
  repeat : Place → List ℕ → Expression → Expression → Statements → Statements → Statements
  choose : Statements → Statements → Statements
  way : Expression → Statements → Statements → Statements
  last : Statements → Statements
  pick : Expression → Statements → Statements → Statements
  arm : ℕ → Statements → Statements → Statements

-- a DEFINE: its name, its parameters, its statements, and the expression of its RETURN
pub record Define : Type 0 where
  pub name : List ℕ
  pub params : List DefineParam
  pub body : Statements
  pub answer : Expression

-- the DEFINEs in their order, and the statements
pub record Operation : Type 0 where
  pub defines : List Define
  pub body : Statements

abbrev mutual
  pub expression_of : Expr → Expression
  expression_of (expr.Number s n) = number s n
  expression_of (expr.Name s n) = name s n
  expression_of (expr.Slice' s n p h q l) = slice s n (expression_of h) (expression_of l)
  expression_of (expr.Bit' s n p k) = bit s n (expression_of k)
  expression_of (expr.Element' s n w p k) = element s n w (expression_of k)
  expression_of (expr.Part s n w) = part s n w
  expression_of (expr.Unary' s o p x) = unary s o (expression_of x)
  expression_of (expr.Binary' s o p x q y) = binary s o (expression_of x) (expression_of y)
  expression_of (expr.Choice' s p c q x r y) = choice s (expression_of c) (expression_of x) (expression_of y)
  expression_of (expr.Call s n a) = call s n (arguments_of a)

  pub arguments_of : arguments.Arguments → Arguments
  arguments_of list.End = end
  arguments_of (list.More' p x q a) = more (expression_of x) (arguments_of a)

abbrev pub statements_of : Stmt → Statements
statements_of stmt.End = stop
statements_of (stmt.Assign' p t e q s) = assign p (expression_of t) (expression_of e) (statements_of s)
statements_of (stmt.AssignAbove' p n l e q s) = above p n (expression_of l) (expression_of e) (statements_of s)
statements_of (stmt.For' p n a b q s r t) =
    repeat p n (expression_of a) (expression_of b) (statements_of s) (statements_of t)
statements_of (stmt.If' p w q s) = choose (statements_of w) (statements_of s)
statements_of (stmt.Way' c p s q w) = way (expression_of c) (statements_of s) (statements_of w)
statements_of (stmt.Else' p s) = last (statements_of s)
statements_of (stmt.Case' e p a q s) = pick (expression_of e) (statements_of a) (statements_of s)
statements_of (stmt.Arm' n p s q a) = arm n (statements_of s) (statements_of a)

abbrev pub define_of : define.Define → Define
define_of d = record { name = d.name; params = d.params; body = statements_of d.body; answer = expression_of d.answer }

abbrev pub operation_of : operation.Operation → Operation
operation_of o = record { defines = map define_of o.defines; body = statements_of o.body }
