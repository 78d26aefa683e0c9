-- The descriptions that the code has of a catalogue.
use Rattle.std.proofs.Common.{◌≡◌, ℕ, List, ◌∙◌, subst, sym}
use Rattle.std.specs.List.{AllByRecursion}
use Rattle.vg_catalog.specs.declared.catalog.Catalog.{Catalog}
use Rattle.vg_catalog.specs.Catalogs.{entries_in}
use Rattle.vg_catalog.specs.Entries.{Entry}
use Rattle.vg_shapes.specs.Description.{Description}
use Rattle.vg_emission.specs.Truth.{IsCallable}
use Rattle.vg_descriptions.specs.Descriptions.{AreOf, descriptions}
use Rattle.vg_descriptions.proofs.Proper.{catalog-proper}
use Rattle.vg_compile.specs.Described.{AreDescribed}
use Rattle.vg_compile.proofs.Whole.{all-callable}

-- a slice of what was found of a catalogue
pub are-described : (catalog : Catalog) (set : ℕ) (ds xs : List Description) → xs ≡ ds → ds ≡ descriptions set (entries_in catalog)
    → AreOf (entries_in catalog) ds → AreDescribed (entries_in catalog) set xs
are-described catalog set ds xs slice found are = record {
  all = slice ∙ found;
  each = subst (AreOf (entries_in catalog)) (sym slice) are;
  proper = catalog-proper catalog;
}

pub described-callable : (entries : List Entry) (set : ℕ) (ds : List Description) → AreDescribed entries set ds → AllByRecursion IsCallable ds
described-callable entries set ds described = all-callable entries ds described.each
