-- An operation with its names resolved. A body is the statements of the operation or those of a
-- DEFINE. Its registers go by their numbers, and so do its number variables; the variable of a FOR
-- goes by how many FORs lie between; a DEFINE goes by its place among all.
use Rattle.std.specs.Prelude.{ℕ, Bool, List, Option}
use Rattle.vg_text.specs.declared.place.Place.{Place}
use Rattle.vg_pseudo.specs.declared.spot.Spot.{Spot}
use Rattle.vg_pseudo.specs.declared.operators.UnaryOp.{UnaryOp}
use Rattle.vg_pseudo.specs.declared.operators.BinaryOp.{BinaryOp}

-- Three are slice forms, of a register that is read as signed or not: `slice` is `name[high:low]`,
-- with n where the text of the high index is that of the low one and `+ n` after it; `element` is
-- `name.elem[index]` or `name[index]`, with the size of the element, or 1; `front` is a bare name
-- or `name.elem`: this many bits from bit 0 on.
mutual
  pub data Expr : Type 0 where
    literal : Spot → ℕ → Expr
    counter : Spot → ℕ → Expr
    variable : Spot → ℕ → Expr
    slice : Spot → Bool → ℕ → Option ℕ → Expr → Expr → Expr
    element : Spot → Bool → ℕ → ℕ → Expr → Expr
    front : Spot → Bool → ℕ → ℕ → Expr
    unary : Spot → UnaryOp → Expr → Expr
    binary : Spot → BinaryOp → Expr → Expr → Expr
    choice : Spot → Expr → Expr → Expr → Expr
    call : Spot → ℕ → Arguments → Expr

  pub data Arguments : Type 0 where
    end : Arguments
    more : Expr → Arguments → Arguments

-- what an assignment writes: bits of a register by its indices, an element by its size, the bits
-- from 0 on, or a number variable
pub data Target : Type 0 where
  bits : ℕ → Expr → Expr → Target
  lane : ℕ → ℕ → Expr → Target
  whole : ℕ → ℕ → Target
  number : ℕ → Target

-- Statements, each with those after it. `skip` is an assignment with MAX. `choose` is an IF, by
-- its ways: `way`s, then `last`. `pick` is a CASE, by its arms: `arm`s, then `stop`.
pub data Code : Type 0 where
  stop : Code
  assign : Place → Target → Expr → Code → Code
  skip : Place → Code → Code
  repeat : Place → Expr → Expr → Code → Code → Code
  choose : Code → Code → Code
  way : Expr → Code → Code → Code
  last : Code → Code
  pick : Expr → Code → Code → Code
  arm : ℕ → Code → Code → Code

-- A body: the widths of its registers in bits, how many of them are parameters, how many number
-- variables it has, and its statements. Parameters come first among the registers; after those of
-- the operation the immediate, where there is one, which counts as one of them, and then dst.
pub record Body : Type 0 where
  pub widths : List ℕ
  pub parameters : ℕ
  pub numbers : ℕ
  pub code : Code

-- a DEFINE: its body, and the expression of its RETURN
pub record Function : Type 0 where
  pub body : Body
  pub answer : Expr

-- the DEFINEs in their order, the body of the operation, and the number of dst among its registers
pub record Resolved : Type 0 where
  pub functions : List Function
  pub body : Body
  pub result : ℕ
