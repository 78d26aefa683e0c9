-- What the lanes of the instances of a catalogue tell of its calls.
use Rattle.vg_catalog.specs.declared.catalog.Catalog.{Catalog}
use Rattle.vg_catalog.specs.Called.{called_by}
use Rattle.vg_catalog.specs.Catalogs.{entries_in}
use Rattle.vg_known.specs.Laws.{CallsAreTold}

-- of each catalogue, where a call gives what the text of its entry means
abbrev pub CatalogsAreTold : Type 0
CatalogsAreTold =
    (catalog : Catalog) → CallsAreTold (called_by (entries_in catalog)) (entries_in catalog)
