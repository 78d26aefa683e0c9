-- Statements with their names resolved, one after the other: each is what it makes of those after it.
use Rattle.std.specs.Prelude.{ℕ, List, [], ◌∷◌, length, Option, Some, None, Result, Ok, box_value}
use Rattle.vg_base.specs.Bind.{◌>>=◌}
use Rattle.vg_text.specs.declared.place.Place.{Place}
use Rattle.vg_pseudo.specs.Names.{Scope, named}
use Rattle.vg_pseudo.specs.Tree.{Expression, Statements, Define, statements_of}
use Rattle.vg_pseudo.specs.Tree as tree
use Rattle.vg_pseudo.specs.Resolve.{NameFault, resolved, target_of, assigned_register, code_of, inside, body_in}
use Rattle.vg_pseudo.specs.Resolved.{Code, assign, skip, repeat, choose, way, last, pick, arm, Body, Function}
use Rattle.vg_names.specs.declared.piece.Piece.{Piece}
use Rattle.vg_names.specs.declared.piece.Piece.TheVariants as piece
use Rattle.vg_names.specs.Views.{expr_of, target_view, code_view}

-- a statement with others after it
abbrev pub behind : Piece → Code → Code
behind (piece.Assign p t e) rest = assign p (target_view t) (expr_of (box_value e)) rest
behind (piece.Skip p) rest = skip p rest
behind (piece.Repeat p a b s) rest =
    repeat p (expr_of (box_value a)) (expr_of (box_value b)) (code_view (box_value s)) rest
behind (piece.Choose w) rest = choose (code_view (box_value w)) rest
behind (piece.Way c s) rest = way (expr_of (box_value c)) (code_view (box_value s)) rest
behind piece.Last rest = last rest
behind (piece.Pick e a) rest = pick (expr_of (box_value e)) (code_view (box_value a)) rest
behind (piece.Arm n s) rest = arm n (code_view (box_value s)) rest

-- these statements, and others after them
abbrev pub code_behind : List (Code → Code) → Code → Code
code_behind [] rest = rest
code_behind (f ∷ fs) rest = f (code_behind fs rest)

-- and where the others are still to be resolved
abbrev pub code_done : List (Code → Code) → Result Code NameFault → Result Code NameFault
code_done fs r = r >>= λ rest. Ok (code_behind fs rest)

abbrev pub assign_of : Scope → Place → Expression → Expression → Result (Code → Code) NameFault
assign_of s at t e = do
  target ← target_of s at t
  value ← resolved s e
  Ok (assign at target value)

abbrev pub above_of : Scope → Place → List ℕ → Expression → Expression
    → Result (Code → Code) NameFault
above_of s at n l e = do
  r ← assigned_register at (named s n)
  low ← resolved s l
  value ← resolved s e
  Ok (skip at)

abbrev pub repeat_of : Scope → Place → List ℕ → Expression → Expression → Statements
    → Result (Code → Code) NameFault
repeat_of s at n a b body = do
  first ← resolved s a
  final ← resolved s b
  turn ← code_of (inside s n) body
  Ok (repeat at first final turn)

abbrev pub choose_of : Scope → Statements → Result (Code → Code) NameFault
choose_of s ways = do
  chosen ← code_of s ways
  Ok (choose chosen)

abbrev pub way_of : Scope → Expression → Statements → Result (Code → Code) NameFault
way_of s c body = do
  condition ← resolved s c
  first ← code_of s body
  Ok (way condition first)

abbrev pub pick_of : Scope → Expression → Statements → Result (Code → Code) NameFault
pick_of s e arms = do
  selector ← resolved s e
  chosen ← code_of s arms
  Ok (pick selector chosen)

abbrev pub arm_of : Scope → ℕ → Statements → Result (Code → Code) NameFault
arm_of s n body = do
  first ← code_of s body
  Ok (arm n first)

-- a statement that is resolved, and what is left
abbrev pub before_rest : Result (Code → Code) NameFault → Statements
    → Result (Option ((Code → Code) × Statements)) NameFault
before_rest r rest = r >>= λ f. Ok (Some (f, rest))

-- the first statement, if there is one, and what is left
abbrev pub next_of : Scope → Statements → Result (Option ((Code → Code) × Statements)) NameFault
next_of s tree.stop = Ok None
next_of s (tree.assign at t e rest) = before_rest (assign_of s at t e) rest
next_of s (tree.above at n l e rest) = before_rest (above_of s at n l e) rest
next_of s (tree.repeat at n a b body rest) = before_rest (repeat_of s at n a b body) rest
next_of s (tree.choose ways rest) = before_rest (choose_of s ways) rest
next_of s (tree.way c body ways) = before_rest (way_of s c body) ways
next_of s (tree.last body) = Ok (Some (last, body))
next_of s (tree.pick e arms rest) = before_rest (pick_of s e arms) rest
next_of s (tree.arm n body arms) = before_rest (arm_of s n body) arms

-- the statements of a body with so many parameters
abbrev pub body_over : ℕ → Scope → Statements → Result Body NameFault
body_over parameters s x = do
  code ← code_of s x
  Ok (body_in parameters s code)

-- a DEFINE where its names mean this
abbrev pub function_over : Scope → Define → Result Function NameFault
function_over s d = do
  body ← body_over (length d.params) s d.body
  answer ← resolved s d.answer
  Ok (record { body = body; answer = answer })
