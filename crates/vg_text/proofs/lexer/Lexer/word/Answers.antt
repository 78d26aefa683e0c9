use Rattle.std.proofs.Common.{drop}
use Rattle.vg_text.specs.Place.{end_place}
use Rattle.vg_text.specs.Lexing.{source, left}
use Rattle.vg_text.proofs.Ends.{lex-ends, word_taken_of}
use Rattle.vg_text.proofs.lexer.Lexer.word.Goals as goal

pub returns : goal.returns
returns c =
    let self = c.args.self in
    let new = c.next.new.self in
    let taken = word_taken_of (source self) (source new) (left self) (left new) c.in_ok-token.token c.in_ok-token.ensures.source (lex-ends (end_place self.text.now) 0 self.at self.place (drop self.at self.text.now)) c.in_ok-token.ensures.token in
    record { word = rw c.is_end.ensures taken }
