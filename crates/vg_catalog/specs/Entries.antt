-- Entries of a file, and what holds of a list of them.
use Rattle.std.specs.Prelude.{◌≡◌, ℕ, ◌+◌, ◌-◌, ◌≤◌, Bool, List, [], ◌∷◌, map, Option, Some, None, position}
use Rattle.std.specs.List.{list_any}
use Rattle.std.specs.Str.{bytes_eq}
use Rattle.vg_pseudo.specs.declared.header.Header.{Header}
use Rattle.vg_pseudo.specs.declared.header.ImmRange.{ImmRange}
use Rattle.vg_pseudo.specs.Tree.{Operation}
use Rattle.vg_range.specs.declared.checked.Checked.{Checked}
use Rattle.vg_range.specs.Checks.{header_in, operation_in}

-- an entry: its header and its operation
pub record Entry : Type 0 where
  pub header : Header
  pub operation : Operation

-- what the code holds of an entry
abbrev pub entry_of : Checked → Entry
entry_of c = record { header = header_in c; operation = operation_in c }

abbrev pub name_of : Entry → List ℕ
name_of e = e.header.name

-- the place of the entry of this name
abbrev pub entry_place : List Entry → List ℕ → Option ℕ
entry_place entries name = position (λ e. bytes_eq name (name_of e)) entries

-- whether an entry has this name
abbrev pub is_known : List Entry → List ℕ → Bool
is_known entries name = list_any (λ e. bytes_eq name (name_of e)) entries

-- how many instances an entry has: one for each immediate, or one
abbrev pub instances_of : Option ImmRange → ℕ
instances_of (Some i) = i.hi - i.lo + 1
instances_of None = 1

-- how many instances entries have
unfoldable pub instances : List Entry → ℕ
instances [] = 0
instances (e ∷ es) = instances_of e.header.imm + instances es

-- the headers, the names and the number of instances that a catalogue keeps beside its entries
pub record IsKept (entries : List Entry) (headers : List Header) (names : List (List ℕ)) (count : ℕ) : Type 0 where
  pub headers_same : headers ≡ map (λ (e : Entry). e.header) entries
  pub names_same : names ≡ map name_of entries
  pub counted : count ≡ instances entries
  pub few : count ≤ 4096
