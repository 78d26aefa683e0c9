-- Reading the header of an entry, word by word, from left to right, with the first fault that is met.
use Rattle.std.specs.Prelude.{ℕ, zero, suc, Bool, true, false, not, ◌&&◌, ◌||◌, ◌==◌, List, [], ◌∷◌, ◌++◌, Option, Some, None, Result, Ok, Err, codes, if◌then◌else◌}
use Rattle.std.specs.List.{list_any}
use Rattle.std.specs.Str.{bytes_eq}
use Rattle.vg_base.specs.Bind.{◌>>=◌, or_fault}
use Rattle.vg_text.specs.Words.{Reading, Spelled}
use Rattle.vg_pseudo.specs.declared.header.Header.{Header}
use Rattle.vg_pseudo.specs.declared.header.Param.{Param}
use Rattle.vg_pseudo.specs.declared.header.ImmRange.{ImmRange}
use Rattle.vg_pseudo.specs.Words.{is_free}
use Rattle.vg_catalog.specs.declared.lanes.Lanes.{Lanes}
use Rattle.vg_catalog.specs.declared.header_reading.Closing.{Closing}
use Rattle.vg_catalog.specs.declared.fault.CatalogFault.{CatalogFault}
use Rattle.vg_catalog.specs.declared.fault.CatalogFault.TheVariants as fault
use Rattle.vg_catalog.specs.Extensions.{extension_place}
use Rattle.vg_catalog.specs.Words.{next_word, this_word, optional_word, number_in_word, number_word}

-- the width of a register
abbrev pub register_named : List ℕ → Option ℕ
register_named bytes = width (number_in_word bytes)
  where
    width : Option ℕ → Option ℕ
    width (Some n) = if n == 128 || n == 256 || n == 512 then Some n else None
    width None = None

-- lanes of this width in a register
abbrev pub make_lanes : ℕ → ℕ → Bool → Option Lanes
make_lanes register width is_signed =
    Some (record { register = register; lane_width = width; is_signed = is_signed })

-- the lanes of an etype of unsigned numbers
abbrev pub unsigned_lanes : ℕ → List ℕ → Option Lanes
unsigned_lanes register bytes =
    if bytes_eq bytes (codes "UI8") then make_lanes register 8 false
    else if bytes_eq bytes (codes "UI16") then make_lanes register 16 false
    else if bytes_eq bytes (codes "UI32") then make_lanes register 32 false
    else if bytes_eq bytes (codes "UI64") then make_lanes register 64 false else None

-- of signed numbers
abbrev pub signed_lanes : ℕ → List ℕ → Option Lanes
signed_lanes register bytes =
    if bytes_eq bytes (codes "SI8") then make_lanes register 8 true
    else if bytes_eq bytes (codes "SI16") then make_lanes register 16 true
    else if bytes_eq bytes (codes "SI32") then make_lanes register 32 true
    else if bytes_eq bytes (codes "SI64") then make_lanes register 64 true else None

-- of a whole register, which goes with its own width alone
abbrev pub whole_lanes : ℕ → List ℕ → Option Lanes
whole_lanes register bytes =
    if bytes_eq bytes (codes "M128") && register == 128 then make_lanes register 64 false
    else if bytes_eq bytes (codes "M256") && register == 256 then make_lanes register 64 false
    else if bytes_eq bytes (codes "M512") && register == 512 then make_lanes register 64 false else None

-- the first that there is
abbrev pub first_of : {A : Type 0} → Option A → Option A → Option A
first_of (Some x) more = Some x
first_of None more = more

-- the lanes of an etype in a register of this width
abbrev pub lanes_named : ℕ → List ℕ → Option Lanes
lanes_named register bytes =
    first_of (unsigned_lanes register bytes) (first_of (signed_lanes register bytes) (whole_lanes register bytes))

-- a width
abbrev pub register_at : Reading → Result (ℕ × Reading) CatalogFault
register_at r = next_word r >>= λ w. or_fault (register_named w.0.bytes) (fault.Header w.0.place) >>= λ n. Ok (n, w.1)

-- an etype of a register of this width
abbrev pub etype_at : ℕ → Reading → Result (Lanes × Reading) CatalogFault
etype_at register r =
    next_word r >>= λ w. or_fault (lanes_named register w.0.bytes) (fault.Header w.0.place) >>= λ l. Ok (l, w.1)

-- `width etype`
unfoldable pub lanes_at : Reading → Result (Lanes × Reading) CatalogFault
lanes_at r = do
  register ← register_at r
  etype_at register.0 register.1

-- whether a parameter has this name
abbrev pub is_param : List Param → List ℕ → Bool
is_param params name = list_any (λ p. bytes_eq p.name name) params

-- a name that an operand may have after these parameters
abbrev pub is_operand_name : List Param → List ℕ → Bool
is_operand_name params name = is_free name && not (bytes_eq name (codes "dst")) && not (is_param params name)

-- the name of an operand
abbrev pub operand_at : List Param → Reading → Result (Spelled × Reading) CatalogFault
operand_at params r =
    next_word r >>= λ w. if is_operand_name params w.0.bytes then Ok w else Err (fault.Header w.0.place)

-- a parameter after PARAM: `name width etype`
unfoldable pub param_at : List Param → Reading → Result (Param × Reading) CatalogFault
param_at params r = do
  name ← operand_at params r
  lanes ← lanes_at name.1
  Ok (
    record {
      name = name.0.bytes;
      register = lanes.0.register;
      lane_width = lanes.0.lane_width;
      is_signed = lanes.0.is_signed;
    },
    lanes.1,
  )

-- parameters after those that are done, this many at most
unfoldable pub params_from : ℕ → List Param → Reading → Result (List Param × Reading) CatalogFault
params_from zero done r = Ok (done, r)
params_from (suc room) done r = do
  word ← optional_word (codes "PARAM") r
  if word.0 then (param_at done word.1 >>= λ p. params_from room (done ++ p.0 ∷ []) p.1)
      else Ok (done, word.1)

-- one to four parameters
unfoldable pub params_at : Reading → Result (List Param × Reading) CatalogFault
params_at r = do
  word ← this_word (codes "PARAM") r
  first ← param_at [] word.1
  params_from 3 (first.0 ∷ []) first.1

-- an immediate after IMM: `name lo to hi`
unfoldable pub range_at : List Param → Reading → Result (ImmRange × Reading) CatalogFault
range_at params r = do
  name ← operand_at params r
  lo ← number_word 0 255 name.1
  to ← this_word (codes "to") lo.1
  hi ← number_word lo.0 255 to.1
  Ok (
    record {
      name = name.0.bytes;
      lo = lo.0;
      hi = hi.0;
    },
    hi.1,
  )

-- an immediate, if there is one
unfoldable pub imm_at : List Param → Reading → Result (Option ImmRange × Reading) CatalogFault
imm_at params r = do
  word ← optional_word (codes "IMM") r
  if word.0 then (range_at params word.1 >>= λ i. Ok (Some i.0, i.1))
      else Ok (None, word.1)

-- `RESULT dst width etype`
unfoldable pub result_at : Reading → Result (Lanes × Reading) CatalogFault
result_at r = do
  word ← this_word (codes "RESULT") r
  name ← this_word (codes "dst") word.1
  lanes_at name.1

-- the fault of a word that names no extension; the end of the input is no word
abbrev pub extension_fault : Spelled → CatalogFault
extension_fault w = if w.is_end then fault.Header w.place else fault.ExtensionUnknown w.place

-- `EXTENSION name`, as the place of the extension in its list
unfoldable pub extension_at : Reading → Result (ℕ × Reading) CatalogFault
extension_at r = do
  word ← this_word (codes "EXTENSION") r
  name ← next_word word.1
  place ← or_fault (extension_place name.0.bytes) (extension_fault name.0)
  Ok (place, name.1)

-- `COST n`
unfoldable pub cost_at : Reading → Result (ℕ × Reading) CatalogFault
cost_at r = do
  word ← this_word (codes "COST") r
  number_word 1 1000 word.1

-- what stands after the parameters and the immediate, up to OPERATION
unfoldable pub closing_at : Reading → Result (Closing × Reading) CatalogFault
closing_at r = do
  result ← result_at r
  extension ← extension_at result.1
  cost ← cost_at extension.1
  word ← this_word (codes "OPERATION") cost.1
  Ok (
    record {
      lanes = result.0;
      extension = extension.0;
      cost = cost.0;
    },
    word.1,
  )

-- the name of an entry, which none of these has
abbrev pub entry_name_at : (List ℕ → Bool) → Reading → Result (Spelled × Reading) CatalogFault
entry_name_at is_known r =
    next_word r >>= λ w. if is_free w.0.bytes then (if is_known w.0.bytes then Err (fault.DuplicateName w.0.place) else Ok w)
    else Err (fault.Header w.0.place)

-- a header, up to the operation; entries before have the names that are known
unfoldable pub header_at : (List ℕ → Bool) → Reading → Result (Header × Reading) CatalogFault
header_at is_known r = do
  word ← this_word (codes "INSTRUCTION") r
  name ← entry_name_at is_known word.1
  params ← params_at name.1
  imm ← imm_at params.0 params.1
  closing ← closing_at imm.1
  Ok (
    record {
      name = name.0.bytes;
      params = params.0;
      imm = imm.0;
      register = closing.0.lanes.register;
      lane_width = closing.0.lanes.lane_width;
      extension = closing.0.extension;
      cost = closing.0.cost;
    },
    closing.1,
  )
