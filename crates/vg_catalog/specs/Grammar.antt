-- The language of instruction files: which words spell which header, and which entries a text has. How the
-- words are read is in `Words`, `Headers` and `Files` of vg_catalog; here is only what they may be. The grammar
-- of operations is vg_pseudo's.
use Rattle.std.specs.Prelude.{◌≡◌, ℕ, ◌+◌, ◌≤◌, Bool, true, false, List, [], ◌∷◌, ◌++◌, length, is_ok, Option, Some, None, Ok, IsTrue, codes}
use Rattle.vg_text.specs.Words.{Reading, Spelled, reading_of}
use Rattle.vg_pseudo.specs.declared.header.Header.{Header}
use Rattle.vg_pseudo.specs.declared.header.Param.{Param}
use Rattle.vg_pseudo.specs.declared.header.ImmRange.{ImmRange}
use Rattle.vg_pseudo.specs.Grammar.{Words, Is, IsName, IsOperationText}
use Rattle.vg_range.specs.Acceptance.{checked}
use Rattle.vg_catalog.specs.declared.lanes.Lanes.{Lanes}
use Rattle.vg_catalog.specs.Extensions.{extension_place}
use Rattle.vg_catalog.specs.Words.{next_word, number_in_word}
use Rattle.vg_catalog.specs.Headers.{register_named, lanes_named, is_operand_name}
use Rattle.vg_catalog.specs.Entries.{Entry, is_known, instances, instances_of}

-- these header words stand between two moments of reading a text
unfoldable pub Stand : Words → Reading → Reading → Type 0
Stand [] r q = r ≡ q
Stand (w ∷ ws) r q = (m : Reading) × (next_word r ≡ Ok (w, m)) × Stand ws m q

-- `width etype`: a register and its lanes
pub record AreLanes (register etype : Spelled) (lanes : Lanes) : Type 0 where
  pub width : register_named register.bytes ≡ Some lanes.register
  pub divided : lanes_named lanes.register etype.bytes ≡ Some lanes

abbrev pub lanes_of : Param → Lanes
lanes_of p = record { register = p.register; lane_width = p.lane_width; is_signed = p.is_signed }

-- a name that an operand may have after these parameters: no word of the language, not `dst`, and not theirs
abbrev pub IsOperand : List Param → Spelled → Type 0
IsOperand before w = IsTrue (is_operand_name before w.bytes)

-- `PARAM name width etype`, after these parameters
pub record IsParam (before : List Param) (words : Words) (p : Param) : Type 0 where
  pub first : Spelled
  pub is_first : Is first (codes "PARAM")
  pub named : Spelled
  pub is_name : IsOperand before named
  pub is_named : Is named p.name
  pub register : Spelled
  pub etype : Spelled
  pub are_lanes : AreLanes register etype (lanes_of p)
  pub whole : words ≡ first ∷ named ∷ register ∷ etype ∷ []

-- parameters one after the other, with names that differ
abbrev pub AreParams : List Param → Words → List Param → Type 0
AreParams before words [] = words ≡ []
AreParams before words (p ∷ ps) =
    (front rest : Words)
    × IsParam before front p
    × AreParams (before ++ p ∷ []) rest ps
    × (words ≡ front ++ rest)

-- a word that spells this number
abbrev pub IsNumber : Spelled → ℕ → Type 0
IsNumber w n = number_in_word w.bytes ≡ Some n

-- `IMM name lo to hi`
pub record IsRange (params : List Param) (words : Words) (i : ImmRange) : Type 0 where
  pub first : Spelled
  pub is_first : Is first (codes "IMM")
  pub named : Spelled
  pub is_name : IsOperand params named
  pub is_named : Is named i.name
  pub low : Spelled
  pub is_low : IsNumber low i.lo
  pub to : Spelled
  pub is_to : Is to (codes "to")
  pub high : Spelled
  pub is_high : IsNumber high i.hi
  pub rising : i.lo ≤ i.hi
  pub byte : i.hi ≤ 255
  pub whole : words ≡ first ∷ named ∷ low ∷ to ∷ high ∷ []

-- an immediate, if there is one
abbrev pub IsImm : List Param → Words → Option ImmRange → Type 0
IsImm params words None = words ≡ []
IsImm params words (Some i) = IsRange params words i

-- `RESULT dst width etype EXTENSION name COST n OPERATION`
pub record IsClosing (words : Words) (h : Header) : Type 0 where
  pub result : Spelled
  pub is_result : Is result (codes "RESULT")
  pub dst : Spelled
  pub is_dst : Is dst (codes "dst")
  pub register : Spelled
  pub etype : Spelled
  pub is_signed : Bool
  pub are_lanes : AreLanes register etype (record { register = h.register; lane_width = h.lane_width; is_signed = is_signed })
  pub extension : Spelled
  pub is_extension : Is extension (codes "EXTENSION")
  pub listed : Spelled
  pub is_listed : extension_place listed.bytes ≡ Some h.extension
  pub cost : Spelled
  pub is_cost : Is cost (codes "COST")
  pub price : Spelled
  pub is_price : IsNumber price h.cost
  pub some : 1 ≤ h.cost
  pub few : h.cost ≤ 1000
  pub operation : Spelled
  pub is_operation : Is operation (codes "OPERATION")
  pub whole : words ≡ result ∷ dst ∷ register ∷ etype ∷ extension ∷ listed ∷ cost ∷ price ∷ operation ∷ []

-- a header with one to four parameters, whose name none of these is
pub record IsHeader (is_known : List ℕ → Bool) (words : Words) (h : Header) : Type 0 where
  pub first : Spelled
  pub is_first : Is first (codes "INSTRUCTION")
  pub named : Spelled
  pub is_name : IsName named
  pub is_new : is_known named.bytes ≡ false
  pub is_named : Is named h.name
  pub params : Words
  pub are_params : AreParams [] params h.params
  pub some : 1 ≤ length h.params
  pub few : length h.params ≤ 4
  pub imm : Words
  pub is_imm : IsImm h.params imm h.imm
  pub closing : Words
  pub closes : IsClosing closing h
  pub whole : words ≡ first ∷ named ∷ (params ++ (imm ++ closing))

-- An entry, after those that are done, between two moments of reading: its header, its operation with its END,
-- no more instances than 4,096 with those before it, and it is accepted.
pub record IsEntryText (done : List Entry) (r : Reading) (e : Entry) (q : Reading) : Type 0 where
  pub words : Words
  pub middle : Reading
  pub stand : Stand words r middle
  pub is_header : IsHeader (is_known done) words e.header
  pub few : instances done + instances_of e.header.imm ≤ 4096
  pub is_operation : IsOperationText middle e.operation q
  pub is_accepted : is_ok (checked e.header e.operation) ≡ true

-- the text ends here
abbrev pub EndsHere : Reading → Type 0
EndsHere r = (w : Spelled) × (q : Reading) × (next_word r ≡ Ok (w, q)) × (w.is_end ≡ true)

-- entries one after the other up to the end of the text
abbrev pub AreEntries : List Entry → Reading → List Entry → Type 0
AreEntries done r [] = EndsHere r
AreEntries done r (e ∷ es) =
    (q : Reading)
    × IsEntryText done r e q
    × AreEntries (done ++ e ∷ []) q es

-- the entries of a text of at most 1,048,576 bytes, no more than 1,024
pub record IsFile (text : List ℕ) (entries : List Entry) : Type 0 where
  pub short : length text ≤ 1048576
  pub few : length entries ≤ 1024
  pub are : AreEntries [] (reading_of text) entries
