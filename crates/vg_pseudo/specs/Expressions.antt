-- Reading an expression from left to right, with the first fault that is met. An expression may have 64 nodes one below
-- the other, parentheses counted. That it has more is met at the first word of the operand, or at the operator, that
-- makes what was read so deep; the place of the fault is `whole`, where the whole expression begins.
use Rattle.std.specs.Prelude.{ℕ, zero, suc, ◌+◌, max, Bool, true, List, [], ◌∷◌, length, Option, Some, None, Result, Ok, Err, nat_le, nat_lt, nat_eq, codes, if◌then◌else◌}
use Rattle.std.specs.Option.{option_map_or}
use Rattle.std.specs.Str.{bytes_eq}
use Rattle.vg_base.specs.Bind.{◌>>=◌, or_fault}
use Rattle.vg_base.specs.declared.width.Width.{Width}
use Rattle.vg_text.specs.declared.place.Place.{Place}
use Rattle.vg_text.specs.Words.{Reading, Spelled}
use Rattle.vg_pseudo.specs.declared.operators.UnaryOp.{UnaryOp}
use Rattle.vg_pseudo.specs.declared.operators.BinaryOp.{BinaryOp}
use Rattle.vg_pseudo.specs.declared.definitions.Callee.{Callee}
use Rattle.vg_pseudo.specs.declared.words.Function.{Function}
use Rattle.vg_pseudo.specs.declared.words.Function.TheVariants as functions
use Rattle.vg_pseudo.specs.declared.fault.PseudoFault.{PseudoFault}
use Rattle.vg_pseudo.specs.declared.fault.PseudoFault.TheVariants.{Shape, NestingTooDeep}
use Rattle.vg_pseudo.specs.Tree.{Expression, number, name, slice, bit, element, part, unary, binary, choice, call, Arguments, end, more}
use Rattle.vg_pseudo.specs.Spots.{spot_at, outer_of, with_outer}
use Rattle.vg_pseudo.specs.Definitions.{Context, callee_of}
use Rattle.vg_pseudo.specs.Words.{level_of, operator_named, prefix_named, function_named, element_named, number_of, is_free, begins_operand}
use Rattle.vg_pseudo.specs.Reader.{next_at, expect_at, accept_at, items_behind}

-- An expression that was read, how many nodes it has one below the other with parentheses counted, and the
-- greatest depth of the DEFINEs that it calls, where a DEFINE's body is read.
pub record Part : Type 0 where
  pub expression : Expression
  pub depth : ℕ
  pub calls : ℕ

-- an expression with nothing below it
abbrev pub leaf : Expression → Part
leaf e = record { expression = e; depth = 1; calls = 0 }

-- an expression above one, above two and above three
abbrev pub above_one : Expression → Part → Part
above_one e x = record { expression = e; depth = x.depth + 1; calls = x.calls }

abbrev pub above_two : Expression → Part → Part → Part
above_two e x y = record { expression = e; depth = max x.depth y.depth + 1; calls = max x.calls y.calls }

abbrev pub above_three : Expression → Part → Part → Part → Part
above_three e x y z = record {
  expression = e;
  depth = max x.depth (max y.depth z.depth) + 1;
  calls = max x.calls (max y.calls z.calls);
}

-- how an expression inside another is read: by how loose its operators may be, and how an index is
abbrev pub Inner : Type 0
Inner = ℕ → Reading → Result (Part × Reading) PseudoFault

abbrev pub Index : Type 0
Index = Reading → Result (Part × Reading) PseudoFault

-- `low]` after `name[high:`
unfoldable pub slice_end : Index → Spelled → Part → Reading → Result (Part × Reading) PseudoFault
slice_end index word high r = do
  low ← index r
  closed ← expect_at (codes "]") low.1
  Ok (above_two (slice (spot_at word.place) word.bytes high.expression low.0.expression) high low.0, closed.1)

-- `high:low]` or `index]` after `name[`
unfoldable pub bracket_at : Index → Spelled → Reading → Result (Part × Reading) PseudoFault
bracket_at index word r = do
  high ← index r
  colon ← accept_at (codes ":") high.1
  if colon.0 then slice_end index word high.0 colon.1
      else expect_at (codes "]") colon.1 >>= λ closed. Ok (above_one (bit (spot_at word.place) word.bytes high.0.expression) high.0, closed.1)

-- `index]` after `name.elem[`
unfoldable pub element_end : Index → Spelled → Width → Reading → Result (Part × Reading) PseudoFault
element_end index word size r = do
  at ← index r
  closed ← expect_at (codes "]") at.1
  Ok (above_one (element (spot_at word.place) word.bytes size at.0.expression) at.0, closed.1)

-- `elem` or `elem[index]` after `name.`
unfoldable pub element_at : Index → Spelled → Reading → Result (Part × Reading) PseudoFault
element_at index word r = do
  text ← next_at r
  size ← or_fault (element_named text.0.bytes) (Shape text.0.place)
  opened ← accept_at (codes "[") text.1
  if opened.0 then element_end index word size opened.1
      else Ok (leaf (part (spot_at word.place) word.bytes size), opened.1)

-- what stands after a name that is no call: brackets, an element, or nothing of its own
unfoldable pub form_at : Index → Spelled → Reading → Result (Part × Reading) PseudoFault
form_at index word r = do
  bracket ← accept_at (codes "[") r
  if bracket.0 then bracket_at index word bracket.1
      else accept_at (codes ".") bracket.1 >>= λ dot. if dot.0 then element_at index word dot.1
      else Ok (leaf (name (spot_at word.place) word.bytes), dot.1)

-- an expression in parentheses, after the first, which stands at this place
unfoldable pub parenthesised_at : Inner → Place → Reading → Result (Part × Reading) PseudoFault
parenthesised_at inner place r = do
  inside ← inner 8 r
  closed ← expect_at (codes ")") inside.1
  Ok (above_one (with_outer place inside.0.expression) inside.0, closed.1)

-- the operand after NOT or `-`, which stands at this place
unfoldable pub prefixed_at : Inner → UnaryOp → Place → Reading → Result (Part × Reading) PseudoFault
prefixed_at inner op place r = do
  operand ← inner 0 r
  Ok (above_one (unary (spot_at place) op operand.0.expression) operand.0, operand.1)

-- arguments after `(`, up to `)`
unfoldable pub arguments_at : Inner → Reading → Result (List Part × Reading) PseudoFault
arguments_at inner r = do
  first ← inner 8 r
  all ← items_behind (accept_at (codes ",")) (inner 8) (first.0 ∷ []) first.1
  closed ← expect_at (codes ")") all.1
  Ok (all.0, closed.1)

-- a function of as many arguments as it takes
abbrev pub function_of : Function → Place → List Part → Option Part
function_of (functions.One op) place (x ∷ []) = Some (above_one (unary (spot_at place) op x.expression) x)
function_of (functions.Two op) place (x ∷ y ∷ []) =
    Some (above_two (binary (spot_at place) op x.expression y.expression) x y)
function_of f place parts = None

-- a call of a function after its name, which stands at this place
unfoldable pub function_at : Inner → Function → Place → Reading → Result (Part × Reading) PseudoFault
function_at inner f place r = do
  opened ← expect_at (codes "(") r
  parts ← arguments_at inner opened.1
  node ← or_fault (function_of f place parts.0) (Shape place)
  Ok (node, parts.1)

-- arguments that were read: the list of them, how deep the deepest is, and the greatest depth that they call
pub record Linked : Type 0 where
  pub arguments : Arguments
  pub depth : ℕ
  pub calls : ℕ

abbrev pub linked_one : Part → Linked → Linked
linked_one x l = record {
  arguments = more x.expression l.arguments;
  depth = max x.depth l.depth;
  calls = max x.calls l.calls;
}

-- these arguments before those
unfoldable pub linked : List Part → Linked → Linked
linked [] l = l
linked (x ∷ xs) l = linked_one x (linked xs l)

-- no arguments, after a call of a DEFINE that counts for so much
abbrev pub linked_none : ℕ → Linked
linked_none calls = record { arguments = end; depth = 0; calls = calls }

-- a call of a DEFINE with these arguments
abbrev pub call_of : Spelled → Linked → Part
call_of word l = record {
  expression = call (spot_at word.place) word.bytes l.arguments;
  depth = l.depth + 1;
  calls = l.calls;
}

-- what a call counts for: in a DEFINE the depth of the DEFINE that is called, which is below 64; else nothing
abbrev pub counted : Context → Option Callee → Place → Result ℕ PseudoFault
counted context (Some k) place =
    if context.inside then (if nat_lt k.depth 64 then Ok k.depth else Err (NestingTooDeep place)) else Ok 0
counted context None place = Ok 0

-- whether a call has as many arguments as its DEFINE has parameters; of a name that is none it has any number
abbrev pub takes : Option Callee → ℕ → Bool
takes (Some k) n = nat_eq n k.arity
takes None n = true

-- a call of a DEFINE after its name and `(`
unfoldable pub call_at : Context → Inner → Spelled → Reading → Result (Part × Reading) PseudoFault
call_at context inner word r = do
  calls ← counted context (callee_of context.known word.bytes) word.place
  parts ← arguments_at inner r
  if takes (callee_of context.known word.bytes) (length parts.0) then Ok (call_of word (linked parts.0 (linked_none calls)), parts.1)
      else Err (Shape word.place)

-- a name: a call, or one of its forms
unfoldable pub free_at : Context → Inner → Spelled → Reading → Result (Part × Reading) PseudoFault
free_at context inner word r = do
  opened ← accept_at (codes "(") r
  if opened.0 then call_at context inner word opened.1 else form_at (inner 7) word opened.1

-- an operand that begins with this word, which is no parenthesis, no operator and no number
abbrev pub named_at : Context → Inner → Spelled → Reading → Result (Part × Reading) PseudoFault
named_at context inner word r =
    if is_free word.bytes then free_at context inner word r
    else option_map_or (λ f. function_at inner f word.place r) (function_named word.bytes) (Err (Shape word.place))

-- an operand that begins with this word, which is no parenthesis
abbrev pub plain_at : Context → Inner → Spelled → Reading → Result (Part × Reading) PseudoFault
plain_at context inner word r =
    option_map_or (λ op. prefixed_at inner op word.place r) (prefix_named word.bytes)
    (option_map_or (λ n. Ok (leaf (number (spot_at word.place) n), r)) (number_of word.bytes) (named_at context inner word r))

-- an operand
unfoldable pub operand_at : Context → Inner → Reading → Result (Part × Reading) PseudoFault
operand_at context inner r = do
  word ← next_at r
  if bytes_eq word.0.bytes (codes "(") then parenthesised_at inner word.0.place word.1
      else plain_at context inner word.0 word.1

-- the operator of a word, where it binds as this level does
abbrev pub operator_of : ℕ → List ℕ → Option BinaryOp
operator_of level bytes =
    option_map_or (λ op. if nat_eq (level_of op) level then Some op else None) (operator_named bytes) None

-- the operator that comes next and binds as this level does, which is taken then
abbrev pub operator_at : ℕ → Reading → Result (Option BinaryOp × Reading) PseudoFault
operator_at level r =
    next_at r >>= λ w. option_map_or (λ op. Ok (Some op, w.1)) (operator_of level w.0.bytes) (Ok (None, r))

-- the right operand of an operator, after it
unfoldable pub join_at : Inner → ℕ → Part → BinaryOp → Reading → Result (Part × Reading) PseudoFault
join_at inner level left op r = do
  right ← inner level r
  Ok (above_two (binary (spot_at (outer_of left.expression)) op left.expression right.0.expression) left right.0, right.1)

-- an operator that was taken and its right operand, where so many nodes may stand below it
abbrev pub joined_one : Place → Inner → ℕ → ℕ → Part → BinaryOp → Reading → Result (Part × Reading) PseudoFault
joined_one whole inner room level left op r =
    if nat_le left.depth room then join_at inner level left op r else Err (NestingTooDeep whole)

-- Operators one level looser than this, and their right operands, as long as they follow, nested to the left. So many
-- nodes may stand below an operator, and no more than `joins` operators can follow then.
unfoldable pub joined_at : Place → Inner → ℕ → ℕ → ℕ → Part → Reading → Result (Part × Reading) PseudoFault
joined_at whole inner room level zero left r = do
  op ← operator_at (suc level) r
  option_map_or (λ o. Err (NestingTooDeep whole)) op.0 (Ok (left, op.1))
joined_at whole inner room level (suc joins) left r = do
  op ← operator_at (suc level) r
  option_map_or (λ o. joined_one whole inner room level left o op.1 >>= λ x. joined_at whole inner room level joins x.0 x.1)
      op.0 (Ok (left, op.1))

-- a comparison, which does not repeat
unfoldable pub compared_at : Place → Inner → ℕ → Part → Reading → Result (Part × Reading) PseudoFault
compared_at whole inner room left r = do
  op ← operator_at 4 r
  option_map_or (λ o. joined_one whole inner room 3 left o op.1) op.0 (Ok (left, op.1))

-- `first : second` after a condition and `?`
unfoldable pub choice_at : Inner → Part → Reading → Result (Part × Reading) PseudoFault
choice_at inner condition r = do
  first ← inner 8 r
  colon ← expect_at (codes ":") first.1
  second ← inner 8 colon.1
  Ok (above_three (choice (spot_at (outer_of condition.expression)) condition.expression first.0.expression second.0.expression) condition first.0 second.0, second.1)

-- `? first : second` after a condition, where it follows
unfoldable pub chosen_at : Place → Inner → ℕ → Part → Reading → Result (Part × Reading) PseudoFault
chosen_at whole inner room condition r = do
  mark ← accept_at (codes "?") r
  if mark.0 then (if nat_le condition.depth room then choice_at inner condition mark.1 else Err (NestingTooDeep whole))
      else Ok (condition, mark.1)

-- what may follow an expression of a level at the next looser one
abbrev pub behind_at : Place → Inner → ℕ → ℕ → Part → Reading → Result (Part × Reading) PseudoFault
behind_at whole inner room level left r =
    if nat_eq level 7 then chosen_at whole inner room left r
    else if nat_eq level 3 then compared_at whole inner room left r
    else joined_at whole inner room level room left r

-- An expression of a level, where so many nodes may stand below its root. Level 0 has operands alone, levels 1 to 7 the
-- operators that bind as loose or tighter, and level 8 also the choice by `?`.
unfoldable pub level_at : Context → Place → Inner → ℕ → ℕ → Reading → Result (Part × Reading) PseudoFault
level_at context whole inner room zero r = operand_at context inner r
level_at context whole inner room (suc level) r =
    level_at context whole inner room level r >>= λ x. behind_at whole inner room level x.0 x.1

-- where no node may stand, an operand is too deep
abbrev pub too_deep_at : Place → Reading → Result (Part × Reading) PseudoFault
too_deep_at whole r =
    next_at r >>= λ w. Err (if begins_operand w.0.bytes then NestingTooDeep whole else Shape w.0.place)

-- an expression of a level, of at most so many nodes one below the other
unfoldable pub expression_at : Context → Place → ℕ → ℕ → Reading → Result (Part × Reading) PseudoFault
expression_at context whole zero level r = too_deep_at whole r
expression_at context whole (suc room) level r = level_at context whole (expression_at context whole room) room level r

-- an index, of the expression that begins at `whole`; or one that is an expression of its own
abbrev pub index_in : Context → Option Place → ℕ → Index
index_in context (Some whole) room r = expression_at context whole room 7 r
index_in context None room r = next_at r >>= λ w. expression_at context w.0.place room 7 r

-- an expression of a level that stands in no other
abbrev pub outermost_at : Context → ℕ → Reading → Result (Part × Reading) PseudoFault
outermost_at context level r = next_at r >>= λ w. expression_at context w.0.place 64 level r

-- a whole expression
abbrev pub whole_at : Context → Reading → Result (Part × Reading) PseudoFault
whole_at context r = outermost_at context 8 r

-- an index of a target, which is an expression of its own
abbrev pub own_index_at : Context → Index
own_index_at context r = index_in context None 64 r
