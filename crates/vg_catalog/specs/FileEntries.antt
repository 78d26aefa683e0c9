-- What the entries of each file have, besides being accepted.
use Rattle.std.specs.Prelude.{◌≡◌, ◌≤◌, ◌%◌, ℕ, List, [], ◌∷◌, map, IfSome, IsTrue, length, nat_eq, Option, Some, None}
use Rattle.std.specs.Coded.{×_prop, Unit-prop, le_prop, Coded-set, coded_bool, coded_ℕ}
use Rattle.std.specs.List.{AllByRecursion, AllByRecursion-prop, IsDistinct, IsDistinct-prop, list_any}
use Rattle.std.specs.Option.{MatchOption-prop}
use Rattle.std.specs.Str.{bytes_eq}
use Rattle.vg_text.specs.Byte.{is_name_text}
use Rattle.vg_pseudo.specs.declared.header.Header.{Header}
use Rattle.vg_pseudo.specs.declared.header.Param.{Param}
use Rattle.vg_pseudo.specs.declared.operation.DefineParam.{DefineParam}
use Rattle.vg_pseudo.specs.Tree.{Statements, stop, assign, above, repeat, choose, way, last, pick, arm, Define, Operation}
use Rattle.vg_names.specs.Reading.{AllNarrow, IsNarrow}
use Rattle.vg_names.specs.Written.{AreDefined, AreHigh, AreRegisters, AreWritten, IsHigh, IsWritten}
use Rattle.vg_catalog.specs.Entries.{Entry, name_of}

-- the width of a lane in bits
abbrev pub IsLaneWidth : ℕ → Type 0
IsLaneWidth w = IsTrue (list_any (nat_eq w) (8 ∷ 16 ∷ 32 ∷ 64 ∷ []))

-- A header with a name, registers and lanes of the widths that there are, lanes that fill the result,
-- at most four parameters, and an immediate of a byte if it has one; it costs something.
pub record IsFileHeader (h : Header) : Type 0 where
  pub name : IsTrue (is_name_text h.name)
  pub registers : IsNarrow h
  pub lane : IsLaneWidth h.lane_width
  pub fill : h.register % h.lane_width ≡ 0
  pub few : length h.params ≤ 4
  pub byte : IfSome h.imm (λ r. r.hi ≤ 255)
  pub cost : 1 ≤ h.cost

-- an entry with such a header, which a text can say
pub record IsFileEntry (e : Entry) : Type 0 where
  pub header : IsFileHeader e.header
  pub written : IsWritten e.header e.operation

-- no two entries have one name
abbrev pub NamesDiffer : List Entry → Type 0
NamesDiffer entries = IsDistinct bytes_eq (map name_of entries)

-- such entries, no two of one name
pub record AreFileEntries (entries : List Entry) : Type 0 where
  pub each : AllByRecursion IsFileEntry entries
  pub differ : NamesDiffer entries

-- ---- all this can be known in one way alone, so that a catalogue keeps it

narrow-prop : (ps : List Param) → IsProp (AllNarrow ps)
narrow-prop [] = Unit-prop
narrow-prop (p ∷ ps) = ×_prop (Coded-set coded_bool _ _) (narrow-prop ps)

registers-prop : (h : Header) → IsProp (IsNarrow h)
registers-prop h x y = λ i. record {
  params = narrow-prop h.params x.params y.params i;
  register = Coded-set coded_bool _ _ x.register y.register i;
}

header-prop : (h : Header) → IsProp (IsFileHeader h)
header-prop h x y = λ i. record {
  name = Coded-set coded_bool _ _ x.name y.name i;
  registers = registers-prop h x.registers y.registers i;
  lane = Coded-set coded_bool _ _ x.lane y.lane i;
  fill = Coded-set coded_ℕ _ _ x.fill y.fill i;
  few = le_prop x.few y.few i;
  byte = MatchOption-prop h.imm _ _ Unit-prop (λ r. le_prop) x.byte y.byte i;
  cost = le_prop x.cost y.cost i;
}

written-prop : (s : Statements) → IsProp (AreWritten s)
written-prop stop = Unit-prop
written-prop (assign p t e rest) = written-prop rest
written-prop (above p n l e rest) = written-prop rest
written-prop (repeat p n a b body rest) = ×_prop (written-prop body) (written-prop rest)
written-prop (choose ways rest) = ×_prop (written-prop ways) (written-prop rest)
written-prop (way c body ways) = ×_prop (written-prop body) (written-prop ways)
written-prop (last body) = written-prop body
written-prop (pick e arms rest) = ×_prop (written-prop arms) (written-prop rest)
written-prop (arm n body arms) = λ x y i. (le_prop x.0 y.0 i, written-prop body x.1 y.1 i, written-prop arms x.2 y.2 i)

high-prop : (o : Option ℕ) → IsProp (IsHigh o)
high-prop (Some h) = le_prop
high-prop None = Unit-prop

highs-prop : (ps : List DefineParam) → IsProp (AreHigh ps)
highs-prop [] = Unit-prop
highs-prop (p ∷ ps) = ×_prop (high-prop p.high) (highs-prop ps)

defined-prop : (ds : List Define) → IsProp (AreDefined ds)
defined-prop [] = Unit-prop
defined-prop (d ∷ ds) = ×_prop (×_prop (highs-prop d.params) (written-prop d.body)) (defined-prop ds)

small-prop : (ps : List Param) → IsProp (AreRegisters ps)
small-prop [] = Unit-prop
small-prop (p ∷ ps) = ×_prop le_prop (small-prop ps)

whole-prop : (h : Header) (o : Operation) → IsProp (IsWritten h o)
whole-prop h o x y = λ i. record {
  params = small-prop h.params x.params y.params i;
  register = le_prop x.register y.register i;
  defines = defined-prop o.defines x.defines y.defines i;
  body = written-prop o.body x.body y.body i;
}

entry-prop : (e : Entry) → IsProp (IsFileEntry e)
entry-prop e x y = λ i. record {
  header = header-prop e.header x.header y.header i;
  written = whole-prop e.header e.operation x.written y.written i;
}

pub file-entries-prop : (entries : List Entry) → IsProp (AreFileEntries entries)
file-entries-prop entries x y = λ i. record {
  each = AllByRecursion-prop IsFileEntry entry-prop entries x.each y.each i;
  differ = IsDistinct-prop bytes_eq (map name_of entries) x.differ y.differ i;
}
