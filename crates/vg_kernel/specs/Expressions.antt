-- Reading an expression from left to right, with the first fault that is met. A fault of an
-- operator or a function is met when its last operand has been read, and the operation is counted
-- then; a load is counted at its first word.
use Rattle.std.specs.Prelude.{ℕ, zero, suc, ◌+◌, max, Bool, true, false, Option, Some, None, Result, Ok, Err, nat_le, nat_lt, nat_eq, codes, if◌then◌else◌}
use Rattle.std.specs.Option.{option_map_or}
use Rattle.std.specs.Str.{bytes_eq}
use Rattle.vg_base.specs.Bind.{◌>>=◌, or_fault}
use Rattle.vg_base.specs.declared.width.Width.{Width}
use Rattle.vg_base.specs.Width.{bits_of}
use Rattle.vg_scalar.specs.declared.two_op.TwoOp.{TwoOp}
use Rattle.vg_scalar.specs.declared.shift.Shift.{Shift}
use Rattle.vg_scalar.specs.declared.resize.Resize.{Resize}
use Rattle.vg_text.specs.declared.place.Place.{Place}
use Rattle.vg_text.specs.Number.{decimal_value}
use Rattle.vg_text.specs.Words.{Reading, Spelled, word_at}
use Rattle.vg_text.specs.Byte.{begins_digit}
use Rattle.vg_kernel.specs.declared.fault.KernelFault.{KernelFault}
use Rattle.vg_kernel.specs.declared.fault.KernelFault.TheVariants.{Shape, UnknownName, WidthMismatch, LiteralRange, ShiftRange, TooMany, NestingTooDeep}
use Rattle.vg_kernel.specs.declared.function.Function.{Function}
use Rattle.vg_kernel.specs.declared.function.Function.TheVariants as functions
use Rattle.vg_kernel.specs.declared.given.Given.{Given}
use Rattle.vg_kernel.specs.declared.given.Given.TheVariants as given
use Rattle.vg_kernel.specs.Tree.{Expression, argument, assigned, literal, load, shift}
use Rattle.vg_text.specs.Sized.{width_behind}
use Rattle.vg_kernel.specs.Words.{level_of, operator_named, function_named, is_free, begins_operand, adjoins, literal_of}
use Rattle.vg_kernel.specs.Names.{Names, given_as}
use Rattle.vg_kernel.specs.Nodes.{width_in, pair_node, resize_node, select_node}
use Rattle.vg_kernel.specs.Reader.{next_at, expect_at, address_at}

-- what is left of a text, and how many loads and operations were counted before it
pub record Scan : Type 0 where
  pub reading : Reading
  pub used : ℕ

-- an expression that was read, its depth with parentheses counted, and what is left after it
pub record Part : Type 0 where
  pub expression : Expression
  pub depth : ℕ
  pub scan : Scan

-- an expression of one word or so, which counts for nothing
abbrev pub leaf_part : Expression → Reading → ℕ → Part
leaf_part e r used =
    record { expression = e; depth = 1; scan = record { reading = r; used = used } }

-- one more load or operation at this place, where there are at most 8,192
abbrev pub counted : Place → ℕ → Result ℕ KernelFault
counted place used = if nat_lt used 8192 then Ok (used + 1) else Err (TooMany place)

-- an operation is counted, and then its operands are judged
abbrev pub judged : {A : Type 0} → Place → ℕ → Option A → Result (A × ℕ) KernelFault
judged place used node =
    counted place used >>= λ more. or_fault node (WidthMismatch place) >>= λ x. Ok (x, more)

-- the value that a name at this place stands for
abbrev pub value_of : Option Given → Place → Result Expression KernelFault
value_of (Some (given.Pointer k)) place = Err (WidthMismatch place)
value_of (Some (given.Argument k w)) place = Ok (argument k w)
value_of (Some (given.Assigned k t)) place = Ok (assigned k t)
value_of None place = Err (UnknownName place)

-- the width of the type that stands right after these digits
abbrev pub type_behind : Spelled → Spelled → Option Width
type_behind digits type =
    if adjoins digits type then width_behind (codes "i") type.bytes else None

-- A literal: digits, and right after them a type. `first` is its first word, which is `-` or the
-- digits.
unfoldable pub literal_at : Bool → Place → Spelled → Reading → ℕ → Result Part KernelFault
literal_at negative first digits r used = do
  number ← or_fault (decimal_value digits.bytes) (Shape digits.place)
  type ← next_at r
  width ← or_fault (type_behind digits type.0) (Shape type.0.place)
  value ← or_fault (literal_of negative width number) (LiteralRange first)
  Ok (leaf_part (literal width value) type.1 used)

-- a literal after `-` at this place
abbrev pub negative_at : Place → Reading → ℕ → Result Part KernelFault
negative_at first r used = next_at r >>= λ digits. literal_at true first digits.0 digits.1 used

-- `(place)` after the name of a load, which is counted before
unfoldable pub load_at : Names → Width → Place → Reading → ℕ → Result Part KernelFault
load_at names width place r used = do
  more ← counted place used
  opened ← expect_at (codes "(") r
  from ← address_at names opened
  closed ← expect_at (codes ")") from.1
  Ok (leaf_part (load width from.0) closed more)

-- how an expression inside another is read: by what may bind in it, as the levels of operators
-- count
abbrev pub Inner : Type 0
Inner = ℕ → Scan → Result Part KernelFault

-- a whole expression, which a parenthesis or the comma or parenthesis of a call ends
abbrev pub whole_at : Inner → Reading → ℕ → Result Part KernelFault
whole_at inner r used = inner 5 (record { reading = r; used = used })

-- an expression in parentheses, after the first
unfoldable pub parenthesised_at : Inner → Reading → ℕ → Result Part KernelFault
parenthesised_at inner r used = do
  inside ← whole_at inner r used
  closed ← expect_at (codes ")") inside.scan.reading
  Ok (record {
    expression = inside.expression;
    depth = inside.depth + 1;
    scan = record { reading = closed; used = inside.scan.used };
  })

-- an operation over operands of this depth, closed by `)`
unfoldable pub closed_at : Expression → ℕ → Reading → ℕ → Result Part KernelFault
closed_at node depth r used = do
  closed ← expect_at (codes ")") r
  Ok (record {
    expression = node;
    depth = depth + 1;
    scan = record { reading = closed; used = used };
  })

-- two expressions with a comma between
unfoldable pub pair_at : Inner → Reading → ℕ → Result (Part × Part) KernelFault
pair_at inner r used = do
  left ← whole_at inner r used
  comma ← expect_at (codes ",") left.scan.reading
  right ← whole_at inner comma left.scan.used
  Ok (left, right)

-- a function of these two operands after the second, and `)`
unfoldable pub pair_end : Function → Place → Part → Part → Result Part KernelFault
pair_end function place left right = do
  node ← judged place right.scan.used (pair_node function left.expression right.expression)
  closed_at node.0 (max left.depth right.depth) right.scan.reading node.1

-- a resize of this operand after it, and `)`
unfoldable pub resize_end : Resize → Width → Place → Part → Result Part KernelFault
resize_end op to place operand = do
  node ← judged place operand.scan.used (resize_node op to operand.expression)
  closed_at node.0 operand.depth operand.scan.reading node.1

-- the number of places of a shift at a width
unfoldable pub amount_at : Width → Reading → Result (ℕ × Reading) KernelFault
amount_at width r = do
  number ← next_at r
  amount ← or_fault (decimal_value number.0.bytes) (Shape number.0.place)
  if nat_lt amount (bits_of width) then Ok (amount, number.1) else Err (ShiftRange number.0.place)

-- a shift of this operand after it: `, n)`
unfoldable pub shift_end : Shift → Place → Part → Result Part KernelFault
shift_end op place operand = do
  width ← judged place operand.scan.used (width_in operand.expression)
  comma ← expect_at (codes ",") operand.scan.reading
  amount ← amount_at width.0 comma
  closed_at (shift op width.0 amount.0 operand.expression) operand.depth amount.1 width.1

-- a choice of these operands after the last, and `)`
unfoldable pub select_end : Place → Part → Part → Part → Result Part KernelFault
select_end place condition left right = do
  node ← judged place right.scan.used
      (select_node condition.expression left.expression right.expression)
  closed_at node.0 (max condition.depth (max left.depth right.depth)) right.scan.reading node.1

-- the three operands of a choice
unfoldable pub select_at : Inner → Place → Reading → ℕ → Result Part KernelFault
select_at inner place r used = do
  condition ← whole_at inner r used
  comma ← expect_at (codes ",") condition.scan.reading
  both ← pair_at inner comma condition.scan.used
  select_end place condition both.0 both.1

-- the two operands of a function
abbrev pub two_at : Inner → Function → Place → Reading → ℕ → Result Part KernelFault
two_at inner function place r used =
    pair_at inner r used >>= λ both. pair_end function place both.0 both.1

-- the operand of a shift, and by how many places
abbrev pub shift_at : Inner → Shift → Place → Reading → ℕ → Result Part KernelFault
shift_at inner op place r used = whole_at inner r used >>= λ operand. shift_end op place operand

-- the operand of a resize
abbrev pub resize_at : Inner → Resize → Width → Place → Reading → ℕ → Result Part KernelFault
resize_at inner op to place r used =
    whole_at inner r used >>= λ operand. resize_end op to place operand

-- what stands after the name of a function and `(`
abbrev pub arguments_at : Inner → Function → Place → Reading → ℕ → Result Part KernelFault
arguments_at inner (functions.Two op) place r used = two_at inner (functions.Two op) place r used
arguments_at inner (functions.Compare op) place r used =
    two_at inner (functions.Compare op) place r used
arguments_at inner (functions.Shift op) place r used = shift_at inner op place r used
arguments_at inner (functions.Resize op to) place r used = resize_at inner op to place r used
arguments_at inner functions.Select place r used = select_at inner place r used

-- a call after the name of its function
unfoldable pub call_at : Inner → Function → Place → Reading → ℕ → Result Part KernelFault
call_at inner function place r used = do
  opened ← expect_at (codes "(") r
  arguments_at inner function place opened used

-- an operand that begins with this name
unfoldable pub named_at : Names → Inner → Spelled → Reading → ℕ → Result Part KernelFault
named_at names inner word r used =
    if is_free word.bytes
    then (value_of (given_as names word.bytes) word.place >>= λ e. Ok (leaf_part e r used))
    else option_map_or (λ function. call_at inner function word.place r used)
    (function_named word.bytes)
    (option_map_or (λ width. load_at names width word.place r used)
    (width_behind (codes "load") word.bytes)
    (Err (Shape word.place)))

-- an operand: a name, a literal, a call, or an expression in parentheses
unfoldable pub operand_at : Names → Inner → Scan → Result Part KernelFault
operand_at names inner s = do
  word ← next_at s.reading
  if bytes_eq word.0.bytes (codes "(") then parenthesised_at inner word.1 s.used
      else if bytes_eq word.0.bytes (codes "-") then negative_at word.0.place word.1 s.used
      else if begins_digit word.0.bytes then literal_at false word.0.place word.0 word.1 s.used
      else named_at names inner word.0 word.1 s.used

-- an operator that is read: what it is, where it stands, and what is left after it
pub record Operator : Type 0 where
  pub op : TwoOp
  pub place : Place
  pub behind : Reading

-- the operator of a word, where it binds as tight as this
abbrev pub operator_of : ℕ → Spelled → Reading → Option Operator
operator_of level word behind =
    option_map_or
    (λ op. if nat_eq (level_of op) level
    then Some (record { op = op; place = word.place; behind = behind })
    else None)
    (operator_named word.bytes) None

-- the next word, where it is such an operator; a fault there is met when something takes the word
abbrev pub operator_word : ℕ → Result (Spelled × Reading) Place → Option Operator
operator_word level (Ok w) = operator_of level w.0 w.1
operator_word level (Err p) = None

abbrev pub operator_at : ℕ → Reading → Option Operator
operator_at level r = operator_word level (word_at r)

-- an operator and its right operand after what stands on its left
unfoldable pub join_at : Inner → ℕ → Part → Operator → Result Part KernelFault
join_at inner level left operator = do
  right ← inner level (record { reading = operator.behind; used = left.scan.used })
  node ← judged operator.place right.scan.used
      (pair_node (functions.Two operator.op) left.expression right.expression)
  Ok (record {
    expression = node.0;
    depth = max left.depth right.depth + 1;
    scan = record { reading = right.scan.reading; used = node.1 };
  })

-- Operators one level looser than this, and their right operands, as long as they follow, nested to
-- the left. So many nodes may stand below an operator, and no more than `joins` operators can
-- follow then.
unfoldable pub joined_at : Inner → ℕ → ℕ → ℕ → Part → Result Part KernelFault
joined_at inner level room zero left =
    option_map_or (λ operator. Err (NestingTooDeep operator.place))
    (operator_at (suc level) left.scan.reading) (Ok left)
joined_at inner level room (suc joins) left =
    option_map_or
    (λ operator. if nat_le left.depth room
    then join_at inner level left operator >>= joined_at inner level room joins
    else Err (NestingTooDeep operator.place))
    (operator_at (suc level) left.scan.reading) (Ok left)

-- an expression of operators that bind at least as tight as this level, where so many nodes may
-- stand below its root
unfoldable pub level_at : Names → Inner → ℕ → ℕ → Scan → Result Part KernelFault
level_at names inner room zero s = operand_at names inner s
level_at names inner room (suc level) s =
    level_at names inner room level s >>= joined_at inner level room room

-- where no node may stand, an operand is too deep
abbrev pub too_deep_at : Reading → Result Part KernelFault
too_deep_at r =
    next_at r >>= λ w.
    Err (if begins_operand w.0.bytes then NestingTooDeep w.0.place else Shape w.0.place)

-- an expression of at most so many nodes one below the other
unfoldable pub expression_at : Names → ℕ → ℕ → Scan → Result Part KernelFault
expression_at names zero level s = too_deep_at s.reading
expression_at names (suc room) level s = level_at names (expression_at names room) room level s
