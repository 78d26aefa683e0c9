-- What a library keeps.
use Rattle.std.specs.Prelude.{ℕ, List}
use Rattle.vg_catalog.specs.Catalogs.{entries_in}
use Rattle.vg_catalog.specs.Entries.{Entry}
use Rattle.vg_catalog.specs.Extensions.{bits_in}
use Rattle.vg_library.specs.declared.library.Library.{Library}

-- the entries of its file
abbrev pub entries_kept : Library → List Entry
entries_kept l = entries_in l.catalog

-- the set of the extensions whose entries may be called
abbrev pub set_kept : Library → ℕ
set_kept l = bits_in l.allowed
