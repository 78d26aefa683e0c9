-- The entries of an instruction file of a request.
use Rattle.std.specs.Prelude.{◌≡◌, List, Result, Ok, Err}
use Rattle.vg_catalog.specs.declared.fault.CatalogFault.{CatalogFault}
use Rattle.vg_catalog.specs.declared.catalog.Catalog.{Catalog}
use Rattle.vg_catalog.specs.Catalogs.{entries_in}
use Rattle.vg_catalog.specs.Entries.{Entry}
use Rattle.vg_top.specs.declared.ending.FileNumber.{FileNumber}
use Rattle.vg_top.specs.declared.ending.Ending.{Ending}
use Rattle.vg_top.specs.declared.ending.Ending.TheVariants.{Instructions}

-- a fault of the instruction file, which has this number
abbrev pub entries_or_refusal : FileNumber → Result (List Entry) CatalogFault → Result (List Entry) Ending
entries_or_refusal n (Ok entries) = Ok entries
entries_or_refusal n (Err f) = Err (Instructions n f)

-- the entries of the code are those that are told
abbrev pub AreEntries : Catalog → List Entry → Type 0
AreEntries catalog entries = entries_in catalog ≡ entries
