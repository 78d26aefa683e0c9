-- what is left, read after the entries that are done, is what the whole was
use Rattle.std.proofs.Common.{◌≡◌, []}
use Rattle.vg_text.specs.Words.{reading_of}
use Rattle.vg_catalog.specs.Catalogs.{entries_in}
use Rattle.vg_catalog.specs.Lexing.{left_of}
use Rattle.vg_catalog.specs.Files.{entries_from}
use Rattle.vg_catalog.proofs.file.entries.Given as goal

abbrev pub invariant-entries : goal.invariant-entries
invariant-entries l = record {
  read : entries_from l.room (entries_in l.catalog) (left_of l.reader) ≡ entries_from 1024 [] (reading_of l.fn.text);
}

abbrev pub decreases-entries : goal.decreases-entries
decreases-entries l = l.room
