use Rattle.std.proofs.Common.{◌≡◌, ◌+◌, ◌-◌, ◌∙◌, refl, sym, subst, arith}
use Rattle.vg_text.specs.Lexing.{spelled_of}
use Rattle.vg_catalog.specs.Catalogs.{entries_in}
use Rattle.vg_catalog.specs.Lexing.{left_of}
use Rattle.vg_catalog.specs.Gives.{Gives, Fails}
use Rattle.vg_catalog.proofs.FileSteps.{word-fails, file-ends, entry-more, entry-fails}
use Rattle.vg_catalog.proofs.file.entries.Goals as goal

pub entries-init : goal.entries-init
entries-init c = record { read = rw (c.new-catalog.ensures, c.new-reader.ensures) refl }

pub returns-in-Err : goal.returns-in-Err
returns-in-Err c = record {
  read = subst (Fails c.in-Err.fault) c.entries.invariant.read
      (word-fails c.entries.room (entries_in c.entries.catalog) (left_of c.entries.reader) c.in-Err.fault c.entries-test.true c.in-Err.ensures.read);
}

pub returns-then-word : goal.returns-then-word
returns-then-word c = record {
  read = sym c.entries.invariant.read
      ∙ file-ends c.entries.room (entries_in c.entries.catalog) (left_of c.entries.reader) (spelled_of c.in-Ok.word, left_of c.next.new.self) c.entries-test.true c.in-Ok.ensures.read c.if-word.true;
}

pub returns-in-Err-entry : goal.returns-in-Err-entry
returns-in-Err-entry c = record {
  read = subst (Fails c.in-Err-entry.fault) c.entries.invariant.read
      (entry-fails c.entries.room (entries_in c.entries.catalog) (left_of c.entries.reader) (spelled_of c.in-Ok.word, left_of c.next.new.self) c.in-Err-entry.fault c.entries-test.true c.in-Ok.ensures.read c.if-word.false c.in-Err-entry.ensures.read);
}

pub entries-preserved : goal.entries-preserved
entries-preserved c =
    let test = c.entries-test.true in
    let one_less : c.entries.room ≡ (c.entries.room - 1) + 1 = omega (arith, test) in
    record {
      read = entry-more c.entries.room (c.entries.room - 1) (entries_in c.entries.catalog) (entries_in c.in-Ok-entry.catalog) (left_of c.entries.reader) (left_of c.entry.new.reader) (spelled_of c.in-Ok.word, left_of c.next.new.self) one_less c.in-Ok.ensures.read c.if-word.false c.in-Ok-entry.ensures.read
          ∙ c.entries.invariant.read;
    }

pub returns : goal.returns
returns c =
    let test = c.entries-test.false in
    let none : c.entries.room ≡ 0 = omega (arith, test) in
    record {
      read = subst (Gives entries_in c.end.result) (rw none at c.entries.invariant.read) c.end.ensures.read;
    }
