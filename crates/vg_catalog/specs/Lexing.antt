-- A reader of the code by the words that it has left.
use Rattle.vg_text.specs.Words.{Reading}
use Rattle.vg_text.specs.Lexing.{reading}
use Rattle.vg_catalog.specs.declared.reader.Reader.{Reader}

-- the text, and the tokens that are left
abbrev pub left_of : Reader → Reading
left_of r = reading r.lexer
