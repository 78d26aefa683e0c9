-- A catalogue by its entries.
use Rattle.std.specs.Prelude.{List, map}
use Rattle.vg_catalog.specs.declared.catalog.Catalog.{Catalog}
use Rattle.vg_catalog.specs.Entries.{Entry, entry_of}

-- its entries, in their order
abbrev pub entries_in : Catalog → List Entry
entries_in c = map entry_of c.entries.items
