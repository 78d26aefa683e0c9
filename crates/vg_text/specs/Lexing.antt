-- A lexer by the tokens that it has left, and a word of the code by its bytes.
use Rattle.std.specs.Prelude.{ℕ, List, drop}
use Rattle.vg_text.specs.declared.lexer.Lexer.{Lexer}
use Rattle.vg_text.specs.declared.lexer.Word.{Word}
use Rattle.vg_text.specs.Place.{end_place}
use Rattle.vg_text.specs.Token.{Lexemes, lex}
use Rattle.vg_text.specs.Words.{Reading, Spelled}

-- the whole text
abbrev pub source : Lexer → List ℕ
source l = l.text.now

-- the tokens that are left
abbrev pub left : Lexer → Lexemes
left l = lex (end_place l.text.now) 0 l.at l.place (drop l.at l.text.now)

-- the text, and the tokens that are left
abbrev pub reading : Lexer → Reading
reading l = record { text = source l; left = left l }

-- a word without its address
abbrev pub spelled_of : Word → Spelled
spelled_of w = record { bytes = w.bytes.now; place = w.place; is_end = w.is_end }
