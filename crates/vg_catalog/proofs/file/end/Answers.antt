use Rattle.std.proofs.Common.{◌∙◌, sym, drop}
use Rattle.vg_text.specs.Place.{end_place}
use Rattle.vg_text.specs.Lexing.{left}
use Rattle.vg_text.specs.Words.{EndsOnce}
use Rattle.vg_text.specs.declared.lexer.Lexer.{Lexer}
use Rattle.vg_text.proofs.Ends.{lex-ends}
use Rattle.vg_catalog.specs.Catalogs.{entries_in}
use Rattle.vg_catalog.specs.Lexing.{left_of}
use Rattle.vg_catalog.proofs.FileSteps.{ends-well, too-many}
use Rattle.vg_catalog.proofs.file.end.Goals as goal

once : (l : Lexer) → EndsOnce (left l)
once l = lex-ends (end_place l.text.now) 0 l.at l.place (drop l.at l.text.now)

pub returns-in-Ok : goal.returns-in-Ok
returns-in-Ok c = record {
  read = ends-well (entries_in c.args.catalog) (left_of c.args.reader) (left c.next.new.self) c.in-Ok.token (once c.args.reader.lexer) c.in-Ok.ensures.token (sym c.is_end.ensures ∙ c.if-is_end.true);
}

pub returns-in-Ok-2 : goal.returns-in-Ok-2
returns-in-Ok-2 c = record {
  read = too-many (entries_in c.args.catalog) (left_of c.args.reader) (left c.next.new.self) c.in-Ok.token (once c.args.reader.lexer) c.in-Ok.ensures.token (sym c.is_end.ensures ∙ c.if-is_end.false);
}
