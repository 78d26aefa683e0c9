use Rattle.std.proofs.Common.{◌∙◌, sym, drop}
use Rattle.std.proofs.lemmas.Result.{err_from_is_err_and}
use Rattle.vg_text.specs.Place.{end_place}
use Rattle.vg_text.specs.Lexing.{source, left}
use Rattle.vg_text.proofs.Ends.{lex-ends}
use Rattle.vg_catalog.proofs.HeaderWords.{at_end, begins_ok, begins_bad}
use Rattle.vg_catalog.proofs.reader.Reader.next.Goals as goal

pub returns-then-is_end-clause-read : goal.returns-then-is_end-clause-read
returns-then-is_end-clause-read c =
    let l = c.args.self.now.lexer in
    at_end (source l) (source c.next.new.self) (left l) (left c.next.new.self) c.in-Ok.token c.in-Ok.ensures.source (lex-ends (end_place l.text.now) 0 l.at l.place (drop l.at l.text.now)) c.in-Ok.ensures.token (sym c.is_end.ensures ∙ c.if-is_end.true)

pub returns-in_err-end-clause-read : goal.returns-in_err-end-clause-read
returns-in_err-end-clause-read c =
    let l = c.args.self.now.lexer in
    let p = err_from_is_err_and c.from_residual.result c.from_residual.ensures.1 in
    rw (p.1, p.2) (begins_bad c.args.self.now.text.now (source l) (left l) (left c.next.new.self) c.in-Ok.token _ c.args.self.now.same (lex-ends (end_place l.text.now) 0 l.at l.place (drop l.at l.text.now)) c.in-Ok.ensures.token (sym c.is_end.ensures ∙ c.if-is_end.false) c.in_err-end.ensures.read)

pub returns-clause-read : goal.returns-clause-read
returns-clause-read c =
    let l = c.args.self.now.lexer in
    let new = c.end_of_word.new.self in
    begins_ok c.args.self.now.text.now (source l) (source new.lexer) new.text.now c.part.result.now (left l) (left c.next.new.self) (left new.lexer) c.in-Ok.token c.in_ok-end.end c.args.self.now.same new.same c.in_ok-end.ensures.text c.part.ensures
    (lex-ends (end_place l.text.now) 0 l.at l.place (drop l.at l.text.now)) c.in-Ok.ensures.token (sym c.is_end.ensures ∙ c.if-is_end.false) c.in_ok-end.ensures.read
