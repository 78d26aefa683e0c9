-- What a catalogue keeps of its entries, and how it is kept with one entry more.
use Rattle.std.proofs.Common.{◌≡◌, ℕ, Bool, true, false, List, [], ◌∷◌, ◌++◌, map, sym, inl, inr}
use Rattle.std.specs.List.{AllByRecursion, IsDistinct, list_any}
use Rattle.std.specs.Str.{bytes_eq}
use Rattle.std.proofs.lemmas.Bool.{cases_Bool}
use Rattle.std.proofs.lemmas.Slice.Eq.{bytes_eq-Decides}
use Rattle.vg_catalog.specs.declared.catalog.Catalog.{Catalog}
use Rattle.vg_catalog.specs.Catalogs.{entries_in}
use Rattle.vg_catalog.specs.Entries.{Entry, is_known, name_of}
use Rattle.vg_catalog.specs.FileEntries.{AreFileEntries, IsFileEntry, NamesDiffer}
use Rattle.vg_catalog.specs.Written.{AllWritten}

-- ---- one entry more

each-more : {X : Type 0} (P : X → Type 0) (xs : List X) (x : X) → AllByRecursion P xs → P x → AllByRecursion P (xs ++ x ∷ [])
each-more P [] x all own = (own, tt)
each-more P (y ∷ ys) x all own = (all.0, each-more P ys x all.1 own)

turned : (a b : List ℕ) → bytes_eq a b ≡ false → bytes_eq b a ≡ false
turned a b f = elim (cases_Bool (bytes_eq b a)) [
  | inl t ↦ absurd (let u : bytes_eq a b ≡ true = (bytes_eq-Decides a b).1 (sym ((bytes_eq-Decides b a).0 t)) in cc)
  | inr g ↦ g
]

-- what a test of a list says of its first value and of the others
any-parts : {X : Type 0} (test : X → Bool) (x : X) (xs : List X) → list_any test (x ∷ xs) ≡ false → (test x ≡ false) × (list_any test xs ≡ false)
any-parts test x xs f = elim (cases_Bool (test x)) [
  | inl t ↦ absurd (let u = rw t at f in cc)
  | inr g ↦ (g, rw g at f)
]

differ-more : (entries : List Entry) (e : Entry) → NamesDiffer entries → is_known entries (name_of e) ≡ false → NamesDiffer (entries ++ e ∷ [])
unfolding IsDistinct
differ-more [] e differ fresh = (tt, tt)
differ-more (d ∷ entries) e differ fresh =
    let parts = any-parts (λ x. bytes_eq (name_of e) (name_of x)) d entries fresh in
    (last entries differ.0, differ-more entries e differ.1 parts.1)
  where
    last : (es : List Entry) → AllByRecursion (λ y. bytes_eq (name_of d) y ≡ false) (map name_of es)
        → AllByRecursion (λ y. bytes_eq (name_of d) y ≡ false) (map name_of (es ++ e ∷ []))
    last [] all = (turned (name_of e) (name_of d) (any-parts (λ x. bytes_eq (name_of e) (name_of x)) d entries fresh).0, tt)
    last (x ∷ es) all = (all.0, last es all.1)

pub read-more : (entries : List Entry) (e : Entry) → AreFileEntries entries → IsFileEntry e → is_known entries (name_of e) ≡ false
    → AreFileEntries (entries ++ e ∷ [])
read-more entries e read own fresh = record {
  each = each-more IsFileEntry entries e read.each own;
  differ = differ-more entries e read.differ fresh;
}

pub none-read : AreFileEntries []
unfolding IsDistinct
none-read = record { each = tt; differ = tt }

-- ---- what is kept

pub all-written : (entries : List Entry) → AllByRecursion IsFileEntry entries → AllWritten entries
all-written [] each = tt
all-written (e ∷ es) each = (each.0.written, all-written es each.1)

-- the entries of a catalogue are as files have them
pub catalog-entries : (c : Catalog) → AreFileEntries (entries_in c)
catalog-entries c = c.read

-- and are those that a text can say
pub catalog-written : (c : Catalog) → AllWritten (entries_in c)
catalog-written c = all-written (entries_in c) c.read.each
