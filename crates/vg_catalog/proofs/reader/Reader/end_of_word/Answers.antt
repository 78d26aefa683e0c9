use Rattle.std.proofs.Common.{◌≡◌, Bool, true, false, ℕ, List, ◌∙◌, sym, drop}
use Rattle.vg_text.specs.Place.{end_place}
use Rattle.vg_text.specs.Words.{EndsOnce}
use Rattle.vg_text.specs.Lexing.{left}
use Rattle.vg_text.specs.declared.lexer.Lexer.{Lexer}
use Rattle.vg_text.proofs.Ends.{lex-ends}
use Rattle.vg_catalog.specs.Words.{ends_word}
use Rattle.vg_catalog.proofs.HeaderWords.{ends, goes, stops, fails, fewer}
use Rattle.vg_catalog.proofs.reader.Reader.end_of_word.Goals as goal

once : (l : Lexer) → EndsOnce (left l)
once l = lex-ends (end_place l.text.now) 0 l.at l.place (drop l.at l.text.now)

-- what the test says of the text
tested : (text same bytes : List ℕ) (end : ℕ) (b r : Bool) → same ≡ text → bytes ≡ drop end same → r ≡ ends_word bytes → r ≡ b → ends_word (drop end text) ≡ b
tested text same bytes end b r e f g h = rw (← e, ← f, ← g) h

pub returns-then-ends_word-clause-read : goal.returns-then-ends_word-clause-read
returns-then-ends_word-clause-read c =
    let test = tested _ _ _ c.tokens.end true _ c.tokens.invariant.text c.rest.ensures c.ends_word.ensures c.if-ends_word.true in
    sym c.tokens.invariant.read ∙ ends c.args.self.now.text.now c.tokens.end (left c.tokens.self.lexer) test

pub returns-in-Ok-clause-read : goal.returns-in-Ok-clause-read
returns-in-Ok-clause-read c =
    sym c.tokens.invariant.read ∙ stops c.args.self.now.text.now c.tokens.end (left c.tokens.self.lexer) (left c.next.new.self) c.in-Ok.token (once c.tokens.self.lexer) c.in-Ok.ensures.token (sym c.is_end.ensures ∙ c.if-is_end.true)

pub tokens-smaller : goal.tokens-smaller
tokens-smaller c = fewer (left c.tokens.self.lexer) (left c.next.new.self) c.in-Ok.token (once c.tokens.self.lexer) c.in-Ok.ensures.token (sym c.is_end.ensures ∙ c.if-is_end.false)

pub tokens-preserved : goal.tokens-preserved
tokens-preserved c =
    let test = tested _ _ _ c.tokens.end false _ c.tokens.invariant.text c.rest.ensures c.ends_word.ensures c.if-ends_word.false in
    let on = goes c.args.self.now.text.now c.tokens.end (left c.tokens.self.lexer) (left c.next.new.self) c.in-Ok.token test (once c.tokens.self.lexer) c.in-Ok.ensures.token (sym c.is_end.ensures ∙ c.if-is_end.false) in
    record {
      text = c.tokens.invariant.text;
      within = rw (← c.tokens.invariant.text, ← c.tokens.self.same) c.in-Ok.ensures.span.1;
      read = on ∙ c.tokens.invariant.read;
    }

pub returns-in-Err-clause-read : goal.returns-in-Err-clause-read
returns-in-Err-clause-read c =
    let test = tested _ _ _ c.tokens.end false _ c.tokens.invariant.text c.rest.ensures c.ends_word.ensures c.if-ends_word.false in
    sym c.tokens.invariant.read ∙ fails c.args.self.now.text.now c.tokens.end (left c.tokens.self.lexer) (left c.next.new.self) c.in-Err.place test c.in-Err.ensures.token
