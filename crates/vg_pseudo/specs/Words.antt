-- The words of operation texts.
use Rattle.std.specs.Prelude.{ℕ, ◌^◌, Bool, not, ◌||◌, ◌&&◌, List, take, drop, Option, Some, None, is_some, nat_lt, codes, if◌then◌else◌}
use Rattle.std.specs.Option.{option_map}
use Rattle.std.specs.Str.{bytes_eq}
use Rattle.vg_base.specs.declared.width.Width.{Width}
use Rattle.vg_base.specs.declared.width.Width.TheVariants.{W8, W16, W32, W64}
use Rattle.vg_text.specs.Byte.{is_name_text}
use Rattle.vg_text.specs.Number.{value_in, decimal_value}
use Rattle.vg_text.specs.Sized.{width_behind}
use Rattle.vg_pseudo.specs.declared.operators.UnaryOp.{UnaryOp}
use Rattle.vg_pseudo.specs.declared.operators.UnaryOp.TheVariants.{Not, Negate, Absolute, Signed, SignExtend, ZeroExtend, Saturate, SaturateUnsigned, Truncate}
use Rattle.vg_pseudo.specs.declared.operators.BinaryOp.{BinaryOp}
use Rattle.vg_pseudo.specs.declared.operators.BinaryOp.TheVariants.{Or, Xor, And, Equal, NotEqual, Less, LessOrEqual, Greater, GreaterOrEqual, ShiftLeft, ShiftRight, Add, Subtract, Multiply, Minimum, Maximum}
use Rattle.vg_pseudo.specs.declared.words.Function.{Function}
use Rattle.vg_pseudo.specs.declared.words.Function.TheVariants as functions

-- the first that there is
abbrev pub first_of : {A : Type 0} → Option A → Option A → Option A
first_of (Some x) more = Some x
first_of None more = more

-- the size of an element
abbrev pub element_named : List ℕ → Option Width
element_named bytes =
    if bytes_eq bytes (codes "byte") then Some W8 else if bytes_eq bytes (codes "word") then Some W16
    else if bytes_eq bytes (codes "dword") then Some W32
    else if bytes_eq bytes (codes "qword") then Some W64 else None

-- How loose an operator binds, from 1, the tightest, to 7. MIN and MAX are functions and have 0.
abbrev pub level_of : BinaryOp → ℕ
level_of Multiply = 1
level_of Add = 2
level_of Subtract = 2
level_of ShiftLeft = 3
level_of ShiftRight = 3
level_of Equal = 4
level_of NotEqual = 4
level_of Less = 4
level_of LessOrEqual = 4
level_of Greater = 4
level_of GreaterOrEqual = 4
level_of And = 5
level_of Xor = 6
level_of Or = 7
level_of Minimum = 0
level_of Maximum = 0

-- operators that are words, and `*`
abbrev pub logical_named : List ℕ → Option BinaryOp
logical_named bytes =
    if bytes_eq bytes (codes "OR") then Some Or else if bytes_eq bytes (codes "XOR") then Some Xor
    else if bytes_eq bytes (codes "AND") then Some And
    else if bytes_eq bytes (codes "*") then Some Multiply else None

-- comparisons
abbrev pub comparison_named : List ℕ → Option BinaryOp
comparison_named bytes =
    if bytes_eq bytes (codes "==") then Some Equal
    else if bytes_eq bytes (codes "!=") then Some NotEqual
    else if bytes_eq bytes (codes "<") then Some Less
    else if bytes_eq bytes (codes "<=") then Some LessOrEqual
    else if bytes_eq bytes (codes ">") then Some Greater
    else if bytes_eq bytes (codes ">=") then Some GreaterOrEqual else None

-- shifts, sums and differences
abbrev pub sum_named : List ℕ → Option BinaryOp
sum_named bytes =
    if bytes_eq bytes (codes "<<") then Some ShiftLeft
    else if bytes_eq bytes (codes ">>") then Some ShiftRight
    else if bytes_eq bytes (codes "+") then Some Add
    else if bytes_eq bytes (codes "-") then Some Subtract else None

-- the operator that stands between two operands
abbrev pub operator_named : List ℕ → Option BinaryOp
operator_named bytes = first_of (logical_named bytes) (first_of (comparison_named bytes) (sum_named bytes))

-- the operator that stands before its operand
abbrev pub prefix_named : List ℕ → Option UnaryOp
prefix_named bytes =
    if bytes_eq bytes (codes "NOT") then Some Not
    else if bytes_eq bytes (codes "-") then Some Negate else None

-- the functions whose names have no width
abbrev pub plain_named : List ℕ → Option Function
plain_named bytes =
    if bytes_eq bytes (codes "ABS") then Some (functions.One Absolute)
    else if bytes_eq bytes (codes "Signed") then Some (functions.One Signed)
    else if bytes_eq bytes (codes "MIN") then Some (functions.Two Minimum)
    else if bytes_eq bytes (codes "MAX") then Some (functions.Two Maximum) else None

-- the functions whose names end with a width
abbrev pub sized_named : List ℕ → Option UnaryOp
sized_named bytes =
    first_of (option_map SignExtend (width_behind (codes "SignExtend") bytes))
    (first_of (option_map ZeroExtend (width_behind (codes "ZeroExtend") bytes))
    (first_of (option_map SaturateUnsigned (width_behind (codes "SaturateU") bytes))
    (first_of (option_map Saturate (width_behind (codes "Saturate") bytes))
    (option_map Truncate (width_behind (codes "Truncate") bytes)))))

-- the function of a name
abbrev pub function_named : List ℕ → Option Function
function_named bytes = first_of (plain_named bytes) (option_map functions.One (sized_named bytes))

-- the words of statements and DEFINEs
abbrev pub is_statement_word : List ℕ → Bool
is_statement_word bytes =
    bytes_eq bytes (codes "FOR") || bytes_eq bytes (codes "to") || bytes_eq bytes (codes "ENDFOR")
    || bytes_eq bytes (codes "IF") || bytes_eq bytes (codes "ELSE") || bytes_eq bytes (codes "FI")
    || bytes_eq bytes (codes "CASE") || bytes_eq bytes (codes "OF") || bytes_eq bytes (codes "ESAC")
    || bytes_eq bytes (codes "DEFINE") || bytes_eq bytes (codes "RETURN")

-- the words of headers, and the one that closes an entry
abbrev pub is_header_word : List ℕ → Bool
is_header_word bytes =
    bytes_eq bytes (codes "INSTRUCTION") || bytes_eq bytes (codes "PARAM")
    || bytes_eq bytes (codes "IMM") || bytes_eq bytes (codes "RESULT")
    || bytes_eq bytes (codes "EXTENSION") || bytes_eq bytes (codes "COST")
    || bytes_eq bytes (codes "OPERATION") || bytes_eq bytes (codes "END")

-- the words that are operators
abbrev pub is_operator_word : List ℕ → Bool
is_operator_word bytes = is_some (operator_named bytes) || is_some (prefix_named bytes)

-- the words that no name may be
abbrev pub is_reserved : List ℕ → Bool
is_reserved bytes =
    is_statement_word bytes || is_header_word bytes || is_operator_word bytes
    || is_some (function_named bytes)

-- a name that is not reserved
abbrev pub is_free : List ℕ → Bool
is_free bytes = is_name_text bytes && not (is_reserved bytes)

-- the number that a text spells in a base, where it is below 2 ^ 128
abbrev pub number_in : ℕ → List ℕ → Option ℕ
number_in base digits =
    if nat_lt (value_in base digits) (2 ^ 128) then Some (value_in base digits) else None

-- the number of a decimal or hexadecimal number
abbrev pub number_of : List ℕ → Option ℕ
number_of bytes =
    if bytes_eq (take 2 bytes) (codes "0x") then number_in 16 (drop 2 bytes) else decimal_value bytes

-- a word with which an operand begins
abbrev pub begins_operand : List ℕ → Bool
begins_operand bytes =
    bytes_eq bytes (codes "(") || is_some (prefix_named bytes) || is_some (number_of bytes)
    || is_free bytes || is_some (function_named bytes)

-- a word with which a statement begins
abbrev pub begins_statement : List ℕ → Bool
begins_statement bytes =
    bytes_eq bytes (codes "FOR") || bytes_eq bytes (codes "IF") || bytes_eq bytes (codes "CASE")
    || is_free bytes
