-- Operations that are read from a text have numbers that texts have.
use Rattle.std.specs.Prelude.{◌≡◌, ℕ, ◌^◌, ◌≤◌, ◌==◌, ◌||◌, Bool, List, [], ◌∷◌, Ok, drop, IsTrue}
use Rattle.vg_text.specs.declared.place.Place.{Place}
use Rattle.vg_text.specs.declared.lexer.Lexer.{Lexer}
use Rattle.vg_text.specs.Cut.{Cuts}
use Rattle.vg_text.specs.Lexing.{reading}
use Rattle.vg_text.specs.Words.{Reading, Spelled, word_at}
use Rattle.vg_pseudo.specs.declared.header.Header.{Header}
use Rattle.vg_pseudo.specs.declared.header.Param.{Param}
use Rattle.vg_pseudo.specs.Tree.{Operation}
use Rattle.vg_pseudo.specs.Operations.{operation_at}
use Rattle.vg_names.specs.Written.{AreWritten, AreDefined, AreRegisters, IsWritten}

-- the tokens that are left are those that the text is cut into from a byte on
abbrev pub IsCut : Reading → Type 0
IsCut r = (last : Place) × (at : ℕ) × (p : Place) × Cuts last at p (drop at r.text) r.left

-- the numbers of arms and of highest bits are those of a text
pub record HasNumbersOfTexts (o : Operation) : Type 0 where
  pub defines : AreDefined o.defines
  pub body : AreWritten o.body

-- What is read from a text, wherever a lexer stands in it, has numbers of texts; and it stays cut
-- after each word and after an operation.
pub record ReadAreWritten : Type 0 where
  pub lexers : (l : Lexer) → IsCut (reading l)
  pub words : (r q : Reading) (w : Spelled) → IsCut r → word_at r ≡ Ok (w, q) → IsCut q
  pub operations : (r q : Reading) (o : Operation) → IsCut r → operation_at r ≡ Ok (o, q)
      → HasNumbersOfTexts o × IsCut q

-- the widths of the registers of instructions, in bits
abbrev pub is_register : ℕ → Bool
is_register w = w == 128 || w == 256 || w == 512

abbrev pub AllNarrow : List Param → Type 0
AllNarrow [] = Unit {0}
AllNarrow (p ∷ ps) = IsTrue (is_register p.register) × AllNarrow ps

-- a header with the registers of an instruction
pub record IsNarrow (h : Header) : Type 0 where
  pub params : AllNarrow h.params
  pub register : IsTrue (is_register h.register)

-- A header with registers of 128, 256 or 512 bits is one that a text can say, and so it is with an
-- operation that is read.
pub record NarrowAreWritten : Type 0 where
  pub params : (h : Header) → IsNarrow h → AreRegisters h.params
  pub register : (h : Header) → IsNarrow h → h.register ≤ 2 ^ 127
  pub entries : (h : Header) (o : Operation) → IsNarrow h → HasNumbersOfTexts o → IsWritten h o
