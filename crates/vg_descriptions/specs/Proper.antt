-- What the entries of a catalogue have, in the words of what is emitted.
use Rattle.std.specs.Prelude.{◌≤◌, List, IfSome, IsTrue, length}
use Rattle.std.specs.List.{AllByRecursion}
use Rattle.vg_pseudo.specs.declared.header.Header.{Header}
use Rattle.vg_text.specs.Byte.{is_name_text}
use Rattle.vg_catalog.specs.Entries.{Entry}
use Rattle.vg_catalog.specs.FileEntries.{NamesDiffer}
use Rattle.vg_emission.specs.Planned.{IsLaneWidth}
use Rattle.vg_emission.specs.Truth.{IsRegisterWidth}

-- a header with a name, lanes and registers of the widths that there are, at most four parameters, and
-- an immediate of a byte if it has one; it costs something
pub record IsProper (h : Header) : Type 0 where
  pub name : IsTrue (is_name_text h.name)
  pub lane : IsLaneWidth h.lane_width
  pub register : IsRegisterWidth h.register
  pub params : AllByRecursion (λ q. IsRegisterWidth q.register) h.params
  pub few : length h.params ≤ 4
  pub byte : IfSome h.imm (λ r. r.hi ≤ 255)
  pub cost : 1 ≤ h.cost

-- entries with proper headers and names that differ
pub record AreProper (entries : List Entry) : Type 0 where
  pub headers : AllByRecursion (λ e. IsProper e.header) entries
  pub names : NamesDiffer entries
