-- The words of a text: its tokens by their bytes.
use Rattle.std.specs.Prelude.{◌≡◌, ℕ, Bool, true, false, List, [], Result, Ok, Err, slice_range}
use Rattle.vg_text.specs.declared.place.Place.{Place}
use Rattle.vg_text.specs.declared.token.TokenKind.{TokenKind}
use Rattle.vg_text.specs.declared.token.Token.{Token}
use Rattle.vg_text.specs.declared.token.TokenKind.TheVariants.{Name, Number, Sign, End}
use Rattle.vg_text.specs.Place.{first_place, end_place}
use Rattle.vg_text.specs.Token.{Lexemes, token, finish, fault, lex}

-- a token by its bytes; the end has none
pub record Spelled : Type 0 where
  pub bytes : List ℕ
  pub place : Place
  pub is_end : Bool

-- a text that is being read, and the tokens of it that are left
pub record Reading : Type 0 where
  pub text : List ℕ
  pub left : Lexemes

-- at the front of a text
abbrev pub reading_of : List ℕ → Reading
reading_of text = record { text = text; left = lex (end_place text) 0 0 first_place text }

-- the word of a token that is not the end
abbrev pub spelled : List ℕ → Token → Spelled
spelled text t = record { bytes = slice_range text t.start t.end; place = t.place; is_end = false }

-- the next word and what is left after it; the end, which stays; or the place of a fault
abbrev pub word_from : List ℕ → Lexemes → Result (Spelled × Reading) Place
word_from text (token t rest) = Ok (spelled text t, record { text = text; left = rest })
word_from text (finish t) =
    Ok (
      record {
        bytes = [];
        place = t.place;
        is_end = true;
      },
      record {
        text = text;
        left = finish t;
      },
    )
word_from text (fault p) = Err p

-- the next word of a text that is being read
abbrev pub word_at : Reading → Result (Spelled × Reading) Place
word_at r = word_from r.text r.left

-- the kind of the end
abbrev pub is_end : TokenKind → Bool
is_end Name = false
is_end Number = false
is_end Sign = false
is_end End = true

-- only the end is of the kind of the end, and it is empty
unfoldable pub EndsOnce : Lexemes → Type 0
EndsOnce (token t rest) = (is_end t.kind ≡ false) × EndsOnce rest
EndsOnce (finish t) = (is_end t.kind ≡ true) × (t.start ≡ t.end)
EndsOnce (fault p) = Unit {0}
