-- Entries that are called by their names, and lists that stay true.
use Rattle.std.proofs.Common.{◌≡◌, ℕ, false, List, [], ◌∷◌, map, refl, inl, inr}
use Rattle.std.specs.Prelude.{Some}
use Rattle.std.specs.List.{AllByRecursion, IsDistinct}
use Rattle.std.specs.Str.{bytes_eq}
use Rattle.std.proofs.lemmas.Bool.{cases_Bool}
use Rattle.vg_catalog.specs.Called.{entry_named, headers_of}
use Rattle.vg_program.specs.Valid.{header_of}
use Rattle.vg_catalog.specs.Entries.{Entry, name_of}
use Rattle.vg_catalog.specs.FileEntries.{NamesDiffer}
use Rattle.vg_program.proofs.Steps.{bytes_same}
use Rattle.vg_shapes.specs.Description.{Description}
use Rattle.vg_descriptions.specs.Descriptions.{StayOf}

-- each is the entry of its name
abbrev pub AreNamed : List Entry → List Entry → Type 0
AreNamed entries es = AllByRecursion (λ e. entry_named entries (name_of e) ≡ Some e) es

later-named : (x : Entry) (entries es : List Entry) → AllByRecursion (λ y. bytes_eq (name_of x) y ≡ false) (map name_of es)
    → AreNamed entries es → AreNamed (x ∷ entries) es
later-named x entries [] other h = tt
later-named x entries (e ∷ es) other h =
    let f = other.0 in (rw f h.0, later-named x entries es other.1 h.1)

pub names-found : (entries : List Entry) → NamesDiffer entries → AreNamed entries entries
unfolding IsDistinct
names-found [] d = tt
names-found (e ∷ es) d =
    let t = bytes_same (name_of e) in (rw t refl, later-named e es es d.0 (names-found es d.1))

pub stay-same : (e : Entry) (ds : List Description) → StayOf e ds ds
stay-same e ds entries named are = are

pub stay-on : (e : Entry) (a b c : List Description) → StayOf e a b → StayOf e b c → StayOf e a c
stay-on e a b c f g entries named are = g entries named (f entries named are)

-- the header of an entry that is called by its name
pub header-named : (entries : List Entry) (name : List ℕ) (e : Entry) → entry_named entries name ≡ Some e
    → header_of (headers_of entries) name ≡ Some e.header
header-named [] name e h = absurd (cc)
header-named (x ∷ entries) name e h = elim (cases_Bool (bytes_eq x.header.name name)) [
  | inl t ↦ rw t (let g = rw t at h in cc)
  | inr f ↦ rw f (header-named entries name e (rw f at h))
]
