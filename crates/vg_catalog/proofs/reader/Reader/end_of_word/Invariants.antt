-- the word goes on up to here, and ends where it was to end
use Rattle.std.proofs.Common.{◌≡◌, ◌≤◌, length}
use Rattle.vg_text.specs.Lexing.{left}
use Rattle.vg_pseudo.specs.Reader.{words_in}
use Rattle.vg_catalog.specs.Words.{end_of_word}
use Rattle.vg_catalog.proofs.reader.Reader.end_of_word.Given as goal

abbrev pub invariant-tokens : goal.invariant-tokens
invariant-tokens l = record {
  text : l.self.text.now ≡ l.initial.self.text.now;
  within : l.end ≤ length l.initial.self.text.now;
  read : end_of_word l.initial.self.text.now l.end (left l.self.lexer) ≡ end_of_word l.initial.self.text.now l.initial.end (left l.initial.self.lexer);
}

abbrev pub decreases-tokens : goal.decreases-tokens
decreases-tokens l = words_in (left l.self.lexer)
