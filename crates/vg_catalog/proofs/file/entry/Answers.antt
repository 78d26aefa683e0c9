use Rattle.std.proofs.Common.{◌∙◌, sym, ap, subst}
use Rattle.std.proofs.lemmas.Result.{err_from_is_err_and}
use Rattle.vg_pseudo.specs.Tree.{operation_of}
use Rattle.vg_catalog.specs.Catalogs.{entries_in}
use Rattle.vg_catalog.specs.Lexing.{left_of}
use Rattle.vg_catalog.specs.Entries.{Entry, entry_of, name_of, is_known}
use Rattle.vg_catalog.specs.FileEntries.{IsFileEntry}
use Rattle.vg_catalog.proofs.FileHeaders.{header-read, numbers-read}
use Rattle.vg_catalog.proofs.FileSteps.{name_new, judged_is, entry_fails, entry_ok}
use Rattle.vg_catalog.proofs.file.entry.Goals as goal

pub returns-in_err-checked : goal.returns-in_err-checked
returns-in_err-checked c =
    let p = err_from_is_err_and c.from_residual-in_err-checked.result c.from_residual-in_err-checked.ensures.1 in
    record {
      read = rw (p.1, p.2) (entry_fails c.args.place (entries_in c.args.catalog) (left_of c.args.reader.now) (left_of c.read_header.new.reader) (left_of c.operation.new.reader) c.in_ok-header.header (operation_of c.in_ok-operation.operation) _ c.in_ok-header.ensures.read (sym c.has_room.ensures ∙ c.if-not-has_room.false) c.in_ok-operation.ensures.read c.in_err-checked.ensures.exact);
    }

pub and-requires-clause-fresh : goal.and-requires-clause-fresh
and-requires-clause-fresh c =
    let entries = entries_in c.args.catalog in
    let is = judged_is c.in_ok-header.header (operation_of c.in_ok-operation.operation) (entry_of c.in_ok-checked.checked) c.in_ok-checked.ensures.exact in
    let new = name_new (is_known entries) (left_of c.args.reader.now) (left_of c.read_header.new.reader) c.in_ok-header.header c.in_ok-header.ensures.read in
    ap (λ (e : Entry). is_known entries (name_of e)) is ∙ new

pub and-requires-clause-read : goal.and-requires-clause-read
and-requires-clause-read c =
    let header = c.in_ok-header.header in
    let operation = operation_of c.in_ok-operation.operation in
    let is = judged_is header operation (entry_of c.in_ok-checked.checked) c.in_ok-checked.ensures.exact in
    let front = header-read (is_known (entries_in c.args.catalog)) (left_of c.args.reader.now) (left_of c.read_header.new.reader) header c.in_ok-header.ensures.read in
    let numbers = numbers-read c.operations_that_are_read_are_written.ensures c.read_header.new.reader.lexer (left_of c.operation.new.reader) operation c.in_ok-operation.ensures.read in
    subst IsFileEntry (sym is) (record {
      header = front;
      written = c.narrow_headers_are_written.ensures.entries header operation front.registers numbers;
    })

pub returns : goal.returns
returns c = record {
  read = rw c.in_ok-catalog.ensures.more (entry_ok c.args.place (entries_in c.args.catalog) (left_of c.args.reader.now) (left_of c.read_header.new.reader) (left_of c.operation.new.reader) c.in_ok-header.header (operation_of c.in_ok-operation.operation) (entry_of c.in_ok-checked.checked) c.in_ok-header.ensures.read (sym c.has_room.ensures ∙ c.if-not-has_room.false) c.in_ok-operation.ensures.read c.in_ok-checked.ensures.exact);
}
