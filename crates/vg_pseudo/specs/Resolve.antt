-- An operation with its names resolved, or the first name, in the order of the text, that is not
-- known where it stands or that means no bits.
use Rattle.std.specs.Prelude.{ℕ, ◌+◌, Bool, true, false, not, List, [], ◌∷◌, ◌++◌, map, filter, length, Option, Some, None, Result, Ok, Err, codes, if◌then◌else◌}
use Rattle.std.specs.List.{list_any, list_all}
use Rattle.std.specs.Option.{option_map, option_map_or}
use Rattle.std.specs.Str.{bytes_eq}
use Rattle.vg_base.specs.Bind.{◌>>=◌}
use Rattle.vg_base.specs.declared.width.Width.{Width}
use Rattle.vg_base.specs.Width.{bits_of}
use Rattle.vg_text.specs.declared.place.Place.{Place}
use Rattle.vg_pseudo.specs.declared.header.Header.{Header}
use Rattle.vg_pseudo.specs.declared.header.Param.{Param}
use Rattle.vg_pseudo.specs.declared.header.ImmRange.{ImmRange}
use Rattle.vg_pseudo.specs.declared.operation.DefineParam.{DefineParam}
use Rattle.vg_pseudo.specs.declared.operators.BinaryOp.TheVariants as operator
use Rattle.vg_pseudo.specs.declared.spot.Spot.{Spot}
use Rattle.vg_pseudo.specs.Tree.{Expression, Statements, Define, Operation}
use Rattle.vg_pseudo.specs.Tree as tree
use Rattle.vg_pseudo.specs.Same.{same, same_width}
use Rattle.vg_pseudo.specs.Names.{Form, whole_element, other, Assignment, assignments, bracketed, bracketed_in, distinct_behind, has_name, last_function, Register, Scope, Meaning, a_turn, a_register, a_variable, nothing, named}
use Rattle.vg_pseudo.specs.Signs.{signed_in}
use Rattle.vg_pseudo.specs.Resolved.{Expr, literal, counter, variable, slice, element, front, unary, binary, choice, call, Arguments, end, more, Target, bits, lane, whole, number, Code, stop, assign, skip, repeat, choose, way, last, pick, arm, Body, Function, Resolved}

pub data NameFault : Type 0 where
  unknown_name : Place → NameFault
  bare_register : Place → NameFault

abbrev pub or_fault : {A : Type 0} → NameFault → Option A → Result A NameFault
or_fault fault (Some x) = Ok x
or_fault fault None = Err fault

-- n, where an index is another one with `+ n` after it, the number n being one literal
abbrev pub spread : Expression → Expression → Option ℕ
spread (tree.binary at operator.Add x (tree.number place n)) low =
    if same x low then Some n else None
spread _ low = None

-- a bare name that is read
abbrev pub read_name : Spot → Meaning → Result Expr NameFault
read_name at (a_turn k) = Ok (counter at k)
read_name at (a_variable k) = Ok (variable at k)
read_name at (a_register k r) =
    or_fault (bare_register at.inner) (option_map (front at r.signed_whole k) r.span)
read_name at nothing = Err (unknown_name at.inner)

-- a register whose bits are read
abbrev pub register_of : Place → Meaning → Result (ℕ × Register) NameFault
register_of place (a_register k r) = Ok (k, r)
register_of place _ = Err (unknown_name place)

abbrev mutual
  pub resolved : Scope → Expression → Result Expr NameFault
  resolved s (tree.number at n) = Ok (literal at n)
  resolved s (tree.name at n) = read_name at (named s n)
  resolved s (tree.slice at n h l) = do
    r ← register_of at.inner (named s n)
    high ← resolved s h
    low ← resolved s l
    Ok (slice at r.1.signed_slices r.0 (spread h l) high low)
  resolved s (tree.bit at n k) = do
    r ← register_of at.inner (named s n)
    index ← resolved s k
    Ok (element at false r.0 1 index)
  resolved s (tree.element at n w k) = do
    r ← register_of at.inner (named s n)
    index ← resolved s k
    Ok (element at r.1.signed_slices r.0 (bits_of w) index)
  resolved s (tree.part at n w) = do
    r ← register_of at.inner (named s n)
    Ok (front at r.1.signed_whole r.0 (bits_of w))
  resolved s (tree.unary at op x) = do
    operand ← resolved s x
    Ok (unary at op operand)
  resolved s (tree.binary at op x y) = do
    left ← resolved s x
    right ← resolved s y
    Ok (binary at op left right)
  resolved s (tree.choice at c x y) = do
    condition ← resolved s c
    first ← resolved s x
    second ← resolved s y
    Ok (choice at condition first second)
  resolved s (tree.call at n xs) = do
    f ← or_fault (unknown_name at.inner) (last_function 0 None s.functions n)
    arguments ← all_resolved s xs
    Ok (call at f arguments)

  pub all_resolved : Scope → tree.Arguments → Result Arguments NameFault
  all_resolved s tree.end = Ok end
  all_resolved s (tree.more x xs) = do
    first ← resolved s x
    rest ← all_resolved s xs
    Ok (more first rest)

-- a register that may be assigned
abbrev pub assigned_register : Place → Meaning → Result (ℕ × Register) NameFault
assigned_register place (a_register k r) =
    if r.is_variable then Ok (k, r) else Err (unknown_name place)
assigned_register place _ = Err (unknown_name place)

-- a bare name that is assigned
abbrev pub assigned_name : Place → Meaning → Result Target NameFault
assigned_name place (a_variable k) = Ok (number k)
assigned_name place meaning = do
  r ← assigned_register place meaning
  or_fault (bare_register place) (option_map (whole r.0) r.1.span)

-- the target of an assignment, which is a name or a form with brackets or an element
abbrev pub target_of : Scope → Place → Expression → Result Target NameFault
target_of s place (tree.name at n) = assigned_name place (named s n)
target_of s place (tree.slice at n h l) = do
  r ← assigned_register place (named s n)
  high ← resolved s h
  low ← resolved s l
  Ok (bits r.0 high low)
target_of s place (tree.bit at n k) = do
  r ← assigned_register place (named s n)
  index ← resolved s k
  Ok (lane r.0 1 index)
target_of s place (tree.element at n w k) = do
  r ← assigned_register place (named s n)
  index ← resolved s k
  Ok (lane r.0 (bits_of w) index)
target_of s place (tree.part at n w) = do
  r ← assigned_register place (named s n)
  Ok (whole r.0 (bits_of w))
target_of s place _ = Err (unknown_name place)

-- inside a FOR over this name
abbrev pub inside : Scope → List ℕ → Scope
inside s n =
    record {
      registers = s.registers;
      variables = s.variables;
      turns = n ∷ s.turns;
      functions = s.functions;
    }

abbrev pub code_of : Scope → Statements → Result Code NameFault
code_of s tree.stop = Ok stop
code_of s (tree.assign at t e rest) = do
  target ← target_of s at t
  value ← resolved s e
  behind ← code_of s rest
  Ok (assign at target value behind)
code_of s (tree.above at n l e rest) = do
  r ← assigned_register at (named s n)
  low ← resolved s l
  value ← resolved s e
  behind ← code_of s rest
  Ok (skip at behind)
code_of s (tree.repeat at n a b body rest) = do
  first ← resolved s a
  final ← resolved s b
  turn ← code_of (inside s n) body
  behind ← code_of s rest
  Ok (repeat at first final turn behind)
code_of s (tree.choose ways rest) = do
  chosen ← code_of s ways
  behind ← code_of s rest
  Ok (choose chosen behind)
code_of s (tree.way c body ways) = do
  condition ← resolved s c
  first ← code_of s body
  others ← code_of s ways
  Ok (way condition first others)
code_of s (tree.last body) = do
  only ← code_of s body
  Ok (last only)
code_of s (tree.pick e arms rest) = do
  selector ← resolved s e
  chosen ← code_of s arms
  behind ← code_of s rest
  Ok (pick selector chosen behind)
code_of s (tree.arm n body arms) = do
  first ← code_of s body
  others ← code_of s arms
  Ok (arm n first others)

-- The names that a body assigns, but for those that are given: the parameters, and outside of the
-- DEFINEs the immediate and dst. They are its locals.
abbrev pub local_assignments : List Register → Statements → List Assignment
local_assignments given body =
    filter (λ a. not (list_any (λ r. bytes_eq r.name a.name) given)) (assignments [] body)

abbrev pub locals_of : List Assignment → List (List ℕ)
locals_of as' = distinct_behind [] (map (λ a. a.name) as')

-- a local is a register of 512 bits where it stands somewhere in the body with brackets or with an
-- element
abbrev pub register_locals : List (List ℕ) → List Assignment → List (List ℕ)
register_locals marked as' = filter (has_name marked) (locals_of as')

abbrev pub number_locals : List (List ℕ) → List Assignment → List (List ℕ)
number_locals marked as' = filter (λ n. not (has_name marked n)) (locals_of as')

abbrev pub is_element : Width → Form → Bool
is_element v (whole_element w) = same_width v w
is_element v other = false

-- the size of the one form `name.elem` that all these assignments have
abbrev pub one_element : List Form → Option ℕ
one_element (whole_element w ∷ rest) =
    if list_all (is_element w) rest then Some (bits_of w) else None
one_element _ = None

abbrev pub assigned_to : List ℕ → List Assignment → List Assignment
assigned_to n as' = filter (λ a. bytes_eq a.name n) as'

-- a local that is a register, by the assignments to such locals
abbrev pub local_register : List Register → List Assignment → List ℕ → Register
local_register given as' n = record {
  name = n;
  width = 512;
  is_variable = true;
  signed_slices = false;
  signed_whole = signed_in given as' (length as') n;
  span = one_element (map (λ a. a.form) (assigned_to n as'));
}

-- The assignments by which signs go. The name of a number variable is unsigned, so those to number
-- variables do not count.
abbrev pub register_assignments : List (List ℕ) → List Assignment → List Assignment
register_assignments marked as' = filter (λ a. has_name marked a.name) as'

-- the locals of a body that are registers, by its assignments to locals
abbrev pub local_registers : List Register → List (List ℕ) → List Assignment → List Register
local_registers given marked as' =
    map (local_register given (register_assignments marked as')) (register_locals marked as')

-- the names of a body that begins with these registers, in which these names stand with brackets
abbrev pub scope_of : List Register → List (List ℕ) → List (List ℕ) → Statements → Scope
scope_of given marked functions body =
    let as' = local_assignments given body in record {
      registers = given ++ local_registers given marked as';
      variables = number_locals marked as';
      turns = [];
      functions = functions;
    }

abbrev pub body_in : ℕ → Scope → Code → Body
body_in parameters s c = record {
  widths = map (λ r. r.width) s.registers;
  parameters = parameters;
  numbers = length s.variables;
  code = c;
}

-- a parameter of a DEFINE has as many bits as are written, else 512
abbrev pub define_register : DefineParam → Register
define_register p = record {
  name = p.name;
  width = option_map_or (λ h. h + 1) p.high 512;
  is_variable = false;
  signed_slices = false;
  signed_whole = false;
  span = option_map (λ h. h + 1) p.high;
}

abbrev pub define_scope : List (List ℕ) → Define → Scope
define_scope before d =
    scope_of (map define_register d.params) (bracketed_in [] d.body ++ bracketed [] d.answer)
    before d.body

abbrev pub function_of : List (List ℕ) → Define → Result Function NameFault
function_of before d = do
  code ← code_of (define_scope before d) d.body
  answer ← resolved (define_scope before d) d.answer
  Ok (record { body = body_in (length d.params) (define_scope before d) code; answer = answer })

-- the DEFINEs in their order, each after those of these names
abbrev pub functions_of : List (List ℕ) → List Define → Result (List Function) NameFault
functions_of before [] = Ok []
functions_of before (d ∷ ds) = do
  first ← function_of before d
  rest ← functions_of (before ++ d.name ∷ []) ds
  Ok (first ∷ rest)

-- a parameter of the instruction, all of whose bits its bare name means
abbrev pub param_register : Param → Register
param_register p = record {
  name = p.name;
  width = p.register;
  is_variable = false;
  signed_slices = p.is_signed;
  signed_whole = p.is_signed;
  span = Some p.register;
}

-- the immediate, of 8 bits
abbrev pub imm_registers : Option ImmRange → List Register
imm_registers None = []
imm_registers (Some i) = record {
  name = i.name;
  width = 8;
  is_variable = false;
  signed_slices = false;
  signed_whole = false;
  span = Some 8;
} ∷ []

abbrev pub result_register : Header → Register
result_register h = record {
  name = codes "dst";
  width = h.register;
  is_variable = true;
  signed_slices = false;
  signed_whole = false;
  span = Some h.register;
}

-- what stands before dst among the registers
abbrev pub operand_registers : Header → List Register
operand_registers h = map param_register h.params ++ imm_registers h.imm

abbrev pub operation_scope : Header → Operation → Scope
operation_scope h o =
    scope_of (operand_registers h ++ result_register h ∷ []) (bracketed_in [] o.body)
    (map (λ d. d.name) o.defines) o.body

-- the operation of an entry with its names resolved, or its first name that cannot be
abbrev pub resolve : Header → Operation → Result Resolved NameFault
resolve h o = do
  functions ← functions_of [] o.defines
  code ← code_of (operation_scope h o) o.body
  Ok (record {
    functions = functions;
    body = body_in (length (operand_registers h)) (operation_scope h o) code;
    result = length (operand_registers h);
  })
