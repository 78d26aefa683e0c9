-- Reading the statements and parameters of a kernel, and the whole of it, with the first fault that
-- is met.
use Rattle.std.specs.Prelude.{ℕ, zero, suc, Bool, true, false, List, [], ◌∷◌, ◌++◌, length, None, is_some, Result, Ok, Err, nat_le, codes, if◌then◌else◌}
use Rattle.std.specs.List.{list_any}
use Rattle.std.specs.Option.{option_map_or}
use Rattle.std.specs.Str.{bytes_eq}
use Rattle.vg_base.specs.Bind.{◌>>=◌, or_fault}
use Rattle.vg_base.specs.declared.address.Address.{Address}
use Rattle.vg_base.specs.declared.width.Width.{Width}
use Rattle.vg_text.specs.Place.{first_place}
use Rattle.vg_text.specs.declared.place.Place.{Place}
use Rattle.vg_text.specs.Words.{Reading, Spelled, reading_of}
use Rattle.vg_kernel.specs.declared.fault.KernelFault.{KernelFault}
use Rattle.vg_kernel.specs.declared.fault.KernelFault.TheVariants.{Shape, DuplicateName, WidthMismatch, TooMany, TooLarge}
use Rattle.vg_kernel.specs.declared.head.Head.{Head}
use Rattle.vg_kernel.specs.declared.parameter.KParam.{KParam}
use Rattle.vg_kernel.specs.declared.parameter.KParamKind.{KParamKind}
use Rattle.vg_kernel.specs.declared.parameter.KParamKind.TheVariants.{Pointer, Integer}
use Rattle.vg_kernel.specs.Tree.{Expression, Statement, assign, store, Tree, type_of}
use Rattle.vg_text.specs.Sized.{width_behind}
use Rattle.vg_kernel.specs.Words.{is_free, begins_statement}
use Rattle.vg_kernel.specs.Names.{Names, given_as, names_of, with_name}
use Rattle.vg_kernel.specs.Nodes.{width_in, one_width}
use Rattle.vg_kernel.specs.Reader.{next_at, expect_at, end_at, name_at, address_at}
use Rattle.vg_kernel.specs.Expressions.{Scan, Part, expression_at}

-- a statement that was read, the names that are given after it, and what is left
pub record Step : Type 0 where
  pub statement : Statement
  pub names : Names
  pub scan : Scan

-- an expression that no parenthesis encloses
abbrev pub outer_at : Names → Reading → ℕ → Result Part KernelFault
outer_at names r used = expression_at names 256 5 (record { reading = r; used = used })

-- `= expression;` after a name, which is given from then on
unfoldable pub assignment_at : Names → List ℕ → Reading → ℕ → Result Step KernelFault
assignment_at names name r used = do
  equals ← expect_at (codes "=") r
  value ← outer_at names equals used
  ended ← expect_at (codes ";") value.scan.reading
  Ok (record {
    statement = assign value.expression;
    names = with_name names name (type_of value.expression);
    scan = record { reading = ended; used = value.scan.used };
  })

-- an integer of this width
abbrev pub has_width : Width → Expression → Bool
has_width w e = is_some (option_map_or (one_width w) (width_in e) None)

-- `);` after what is stored
unfoldable pub store_end : Width → Address → Part → Result (Statement × Scan) KernelFault
store_end width to value = do
  closed ← expect_at (codes ")") value.scan.reading
  ended ← expect_at (codes ";") closed
  Ok (store width to value.expression, record { reading = ended; used = value.scan.used })

-- `storeW(place, expression);` after its first word, where the expression has the width of the
-- store
unfoldable pub store_at : Names → Spelled → Reading → ℕ → Result Step KernelFault
store_at names word r used = do
  width ← or_fault (width_behind (codes "store") word.bytes) (Shape word.place)
  opened ← expect_at (codes "(") r
  to ← address_at names opened
  comma ← expect_at (codes ",") to.1
  value ← outer_at names comma used
  if has_width width value.expression
      then (store_end width to.0 value >>= λ s.
      Ok (record { statement = s.0; names = names; scan = s.1 }))
      else Err (WidthMismatch word.place)

-- a statement that begins with this word
unfoldable pub statement_at : Names → Spelled → Reading → ℕ → Result Step KernelFault
statement_at names word r used =
    if is_free word.bytes
    then (if is_some (given_as names word.bytes) then Err (DuplicateName word.place)
    else assignment_at names word.bytes r used)
    else store_at names word r used

-- the end of the statements, where no more may stand, with the place of the brace
abbrev pub closing_at : Reading → Result (Place × Reading) KernelFault
closing_at r =
    next_at r >>= λ word.
    if bytes_eq word.0.bytes (codes "}") then Ok (word.0.place, word.1)
    else Err (if begins_statement word.0.bytes then TooMany word.0.place else Shape word.0.place)

-- statements up to `}`, after those that are done, with room for so many more, and the place of
-- the brace
unfoldable pub statements_at : ℕ → Names → List Statement → Scan
    → Result ((List Statement × Place) × Reading) KernelFault
statements_at zero names done s =
    closing_at s.reading >>= λ closed. Ok ((done, closed.0), closed.1)
statements_at (suc room) names done s = do
  word ← next_at s.reading
  if bytes_eq word.0.bytes (codes "}") then Ok ((done, word.0.place), word.1)
      else statement_at names word.0 word.1 s.used >>= λ x.
      statements_at room x.names (done ++ x.statement ∷ []) x.scan

-- the kind of a parameter: `ptr`, `noalias ptr` or a type
unfoldable pub kind_at : Reading → Result (KParamKind × Reading) KernelFault
kind_at r = do
  word ← next_at r
  if bytes_eq word.0.bytes (codes "ptr") then Ok (Pointer false, word.1)
      else if bytes_eq word.0.bytes (codes "noalias")
      then (expect_at (codes "ptr") word.1 >>= λ behind. Ok (Pointer true, behind))
      else or_fault (width_behind (codes "i") word.0.bytes) (Shape word.0.place) >>= λ width.
      Ok (Integer width, word.1)

-- some parameter has this name
abbrev pub is_taken : List ℕ → List KParam → Bool
is_taken name ps = list_any (λ p. bytes_eq p.name name) ps

-- `name: kind`, where no parameter before has the name
unfoldable pub parameter_at : List KParam → Reading → Result (KParam × Reading) KernelFault
parameter_at before r = do
  name ← name_at r
  fresh ← if is_taken name.0.bytes before then Err (DuplicateName name.0.place)
      else Ok name.0.bytes
  colon ← expect_at (codes ":") name.1
  kind ← kind_at colon
  Ok (record { name = fresh; kind = kind.0 }, kind.1)

-- no parameter more: a name would begin one too many
abbrev pub parameter_too_many : Reading → Result (List KParam × Reading) KernelFault
parameter_too_many r =
    next_at r >>= λ w. Err (if is_free w.0.bytes then TooMany w.0.place else Shape w.0.place)

-- after a parameter: whether a comma stands there, or `)`
abbrev pub comma_at : Reading → Result (Bool × Reading) KernelFault
comma_at r =
    next_at r >>= λ w.
    if bytes_eq w.0.bytes (codes ")") then Ok (false, w.1)
    else if bytes_eq w.0.bytes (codes ",") then Ok (true, w.1)
    else Err (Shape w.0.place)

-- parameters after commas up to `)`, after those that are done, with room for so many more
unfoldable pub parameters_behind : ℕ → List KParam → Reading
    → Result (List KParam × Reading) KernelFault
parameters_behind zero done r =
    comma_at r >>= λ c. if c.0 then parameter_too_many c.1 else Ok (done, c.1)
parameters_behind (suc room) done r =
    comma_at r >>= λ c.
    if c.0 then (parameter_at done c.1 >>= λ p. parameters_behind room (done ++ p.0 ∷ []) p.1)
    else Ok (done, c.1)

-- no parameter, or one and those after it, 16 at most
unfoldable pub parameters_at : Reading → Result (List KParam × Reading) KernelFault
parameters_at r = do
  word ← next_at r
  if bytes_eq word.0.bytes (codes ")") then Ok ([], word.1)
      else parameter_at [] r >>= λ first. parameters_behind 15 (first.0 ∷ []) first.1

-- `name (parameters)`
unfoldable pub head_at : Reading → Result (Head × Reading) KernelFault
head_at r = do
  name ← name_at r
  opened ← expect_at (codes "(") name.1
  params ← parameters_at opened
  Ok (record { name = name.0.bytes; params = params.0 }, params.1)

-- `{ statements }` after this head, and the place of the brace that closes them
unfoldable pub block_at : Head → Reading → Result ((Tree × Place) × Reading) KernelFault
block_at head r = do
  began ← expect_at (codes "{") r
  statements ← statements_at 4096 (names_of head.params) [] (record { reading = began; used = 0 })
  Ok (
    (
      record { name = head.name; params = head.params; statements = statements.0.0 },
      statements.0.1,
    ),
    statements.1,
  )

-- `{ statements }` after this head, and nothing after them
unfoldable pub body_at : Head → Reading → Result (Tree × Reading) KernelFault
body_at head r = do
  block ← block_at head r
  ended ← end_at block.1
  Ok (block.0.0, ended)

-- `kernel name (parameters) { statements }`, and nothing after it
unfoldable pub kernel_at : Reading → Result Tree KernelFault
kernel_at r = do
  announced ← expect_at (codes "kernel") r
  head ← head_at announced
  kernel ← body_at head.0 head.1
  Ok kernel.0

-- the kernel of a text of at most 262,144 bytes, or its first fault
unfoldable pub kernel_of : List ℕ → Result Tree KernelFault
kernel_of text =
    if nat_le (length text) 262144 then kernel_at (reading_of text) else Err (TooLarge first_place)
