-- The entries of catalogues have proper headers and names that differ.
use Rattle.std.proofs.Common.{◌≡◌, ℕ, true, false, List, [], ◌∷◌, refl, subst, inl, inr, arith}
use Rattle.std.specs.Prelude.{◌==◌}
use Rattle.std.specs.List.{AllByRecursion}
use Rattle.std.proofs.lemmas.Bool.{cases_Bool}
use Rattle.std.proofs.lemmas.Bool.Decides.{nat_tests}
use Rattle.vg_pseudo.specs.declared.header.Header.{Header}
use Rattle.vg_pseudo.specs.declared.header.Param.{Param}
use Rattle.vg_names.specs.Reading.{AllNarrow, is_register}
use Rattle.vg_catalog.specs.declared.catalog.Catalog.{Catalog}
use Rattle.vg_catalog.specs.Catalogs.{entries_in}
use Rattle.vg_catalog.specs.Entries.{Entry}
use Rattle.vg_catalog.specs.FileEntries.{IsFileEntry, IsFileHeader}
use Rattle.vg_catalog.proofs.Kept.{catalog-entries}
use Rattle.vg_emission.specs.Truth.{IsRegisterWidth}
use Rattle.vg_descriptions.specs.Proper.{AreProper, IsProper}

register-wide : (k : ℕ) → is_register k ≡ true → IsRegisterWidth k
register-wide k t = elim (cases_Bool (k == 128)) [
  | inl e ↦ subst IsRegisterWidth (let s : 128 ≡ k = grind (arith, nat_tests, e) in s) refl
  | inr f ↦ elim (cases_Bool (k == 256)) [
    | inl e ↦ subst IsRegisterWidth (let s : 256 ≡ k = grind (arith, nat_tests, e) in s) refl
    | inr g ↦ elim (cases_Bool (k == 512)) [
      | inl e ↦ subst IsRegisterWidth (let s : 512 ≡ k = grind (arith, nat_tests, e) in s) refl
      | inr h ↦ absurd (let u : false ≡ true = rw (f, g, h) at t in cc)
    ]
  ]
]

params-wide : (ps : List Param) → AllNarrow ps → AllByRecursion (λ q. IsRegisterWidth q.register) ps
params-wide [] narrow = tt
params-wide (p ∷ ps) narrow = (register-wide p.register narrow.0, params-wide ps narrow.1)

header-proper : (h : Header) → IsFileHeader h → IsProper h
header-proper h is = record {
  name = is.name;
  lane = is.lane;
  register = register-wide h.register is.registers.register;
  params = params-wide h.params is.registers.params;
  few = is.few;
  byte = is.byte;
  cost = is.cost;
}

all-proper : (entries : List Entry) → AllByRecursion IsFileEntry entries
    → AllByRecursion (λ e. IsProper e.header) entries
all-proper [] each = tt
all-proper (e ∷ es) each = (header-proper e.header each.0.header, all-proper es each.1)

pub catalog-proper : (c : Catalog) → AreProper (entries_in c)
catalog-proper c =
    let read = catalog-entries c in
    record { headers = all-proper (entries_in c) read.each; names = read.differ }
