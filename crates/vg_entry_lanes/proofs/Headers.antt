-- Lanes fill the results of the entries of files.
use Rattle.std.proofs.Common.{◌≡◌, ℕ, ◌<◌, ◌≤◌, false, true, List, [], ◌∷◌, inl, inr, subst, arith}
use Rattle.std.specs.Prelude.{nat_eq}
use Rattle.std.specs.List.{AllByRecursion}
use Rattle.std.proofs.lemmas.Bool.{cases_Bool}
use Rattle.std.proofs.lemmas.Bool.Decides.{nat_tests}
use Rattle.vg_terms.specs.Term.{IsWidth}
use Rattle.vg_lift.specs.Instances.{HasLanes}
use Rattle.vg_catalog.specs.declared.catalog.Catalog.{Catalog}
use Rattle.vg_catalog.specs.Catalogs.{entries_in}
use Rattle.vg_catalog.specs.Entries.{Entry}
use Rattle.vg_catalog.specs.FileEntries.{IsFileEntry, IsLaneWidth}
use Rattle.vg_catalog.proofs.Kept.{catalog-entries}
use Rattle.vg_entry_lanes.specs.Laws.{FileHeadersHaveLanes, HaveLanes}

lane-wide : (w : ℕ) → IsLaneWidth w → IsWidth w
lane-wide w is = elim (cases_Bool (nat_eq w 8)) [
  | inl t ↦ at 8 t (omega arith, omega arith)
  | inr a ↦ elim (cases_Bool (nat_eq w 16)) [
    | inl t ↦ at 16 t (omega arith, omega arith)
    | inr b ↦ elim (cases_Bool (nat_eq w 32)) [
      | inl t ↦ at 32 t (omega arith, omega arith)
      | inr c ↦ elim (cases_Bool (nat_eq w 64)) [
        | inl t ↦ at 64 t (omega arith, omega arith)
        | inr d ↦ absurd (let u : false ≡ true = rw (a, b, c, d) at is in cc)
      ]
    ]
  ]
]
  where
    at : (n : ℕ) → nat_eq w n ≡ true → IsWidth n → IsWidth w
    at n t wide = subst IsWidth (let same : n ≡ w = grind (arith, nat_tests, t) in same) wide

pub file-headers-have-lanes : FileHeadersHaveLanes
file-headers-have-lanes h is = record { width = lane-wide h.lane_width is.lane; fill = is.fill }

all-lanes : (entries : List Entry) → AllByRecursion IsFileEntry entries → HaveLanes entries
all-lanes [] each = tt
all-lanes (e ∷ es) each = (file-headers-have-lanes e.header each.0.header, all-lanes es each.1)

-- and so of those of a catalogue
pub catalog-lanes : (c : Catalog) → HaveLanes (entries_in c)
catalog-lanes c = all-lanes (entries_in c) (catalog-entries c).each
