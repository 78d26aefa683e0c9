-- Where the first entry of each name stands.
use Rattle.std.specs.Prelude.{◌≡◌, ℕ, List, Option, Some, None, if◌then◌else◌}
use Rattle.std.specs.Map.{lookup}
use Rattle.std.specs.Str.{bytes_eq}
use Rattle.std.specs.List.{position_from}
use Rattle.vg_catalog.specs.Entries.{Entry, name_of}
use Rattle.vg_catalog.specs.Headers.{first_of}

-- where the first entry of this name stands, after so many others
abbrev pub place_from : ℕ → List Entry → List ℕ → Option ℕ
place_from k entries name = position_from (λ e. bytes_eq name (name_of e)) k entries

module _ {K : Type 0} (items : K → List ℕ) where
  -- what a table of names has for this name
  abbrev pub found : List (K × ℕ) → List ℕ → Option ℕ
  found table name = lookup (λ k. bytes_eq name (items k)) table

  -- each name is found in the table where the first entry of the name stands
  abbrev pub AreFirst : List Entry → List (K × ℕ) → Type 0
  AreFirst entries table = (name : List ℕ) → found table name ≡ place_from 0 entries name

  -- a name that was not found before is found here
  abbrev pub Notes : List (K × ℕ) → List (K × ℕ) → List ℕ → ℕ → Type 0
  Notes before after noted place =
      (name : List ℕ) → found after name
      ≡ first_of (found before name) (if bytes_eq name noted then Some place else None)
