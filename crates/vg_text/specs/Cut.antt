-- How a text is cut into tokens, in the words of the language: white space and comments stand
-- between the tokens, and each token goes on as far as it can. `lex` finds the tokens from left to
-- right; here is only what they have to be.
use Rattle.std.specs.Prelude.{◌≡◌, ℕ, ◌+◌, ◌^◌, ◌<◌, ◌≤◌, Bool, not, ◌&&◌, ◌||◌, ◌==◌, ◌⊎◌, List, [], ◌∷◌, ◌++◌, length, slice_index, slice_range, drop, IsTrue, IsFalse, codes}
use Rattle.std.specs.List.{list_all}
use Rattle.vg_text.specs.declared.place.Place.{Place}
use Rattle.vg_text.specs.declared.token.TokenKind.{TokenKind}
use Rattle.vg_text.specs.declared.token.TokenKind.TheVariants.{Name, Number, Sign, End}
use Rattle.vg_text.specs.declared.token.Token.{Token}
use Rattle.vg_text.specs.Byte.{is_white, is_printable, is_letter, is_digit, is_hex_digit, is_name, is_name_text, in_comment, is_pair}
use Rattle.vg_text.specs.Number.{value_in, is_decimal}
use Rattle.vg_text.specs.Place.{place_after}
use Rattle.vg_text.specs.Token.{Lexemes, token, finish, fault, opens_comment, opens_hexadecimal}

-- no byte of this kind comes next
abbrev pub Stops : (ℕ → Bool) → List ℕ → Type 0
Stops is [] = Unit {0}
Stops is (b ∷ bs) = IsFalse (is b)

-- White space and comments, with what stands after them. A comment goes on to the end of its line:
-- to LF, to the end of the text, or to a byte that may stand nowhere.
pub data IsGap : List ℕ → List ℕ → Type 0 where
  nothing : (behind : List ℕ) → IsGap [] behind
  white : (b : ℕ) (gap behind : List ℕ)
      → IsTrue (is_white b)
      → IsGap gap behind
      → IsGap (b ∷ gap) behind
  comment : (inside gap behind : List ℕ)
      → IsTrue (list_all in_comment inside)
      → Stops in_comment (gap ++ behind)
      → IsGap gap behind
      → IsGap (codes "//" ++ (inside ++ gap)) behind

-- one or more hexadecimal digits
abbrev pub is_hexadecimal : List ℕ → Bool
is_hexadecimal digits = not (length digits == 0) && list_all is_hex_digit digits

-- a decimal or a hexadecimal number, all its digits, and its value
pub data Spells : List ℕ → List ℕ → ℕ → Type 0 where
  tens : (digits behind : List ℕ)
      → IsTrue (is_decimal digits)
      → Stops is_digit behind
      → IsFalse (opens_hexadecimal (digits ++ behind))
      → Spells digits behind (value_in 10 digits)
  sixteens : (digits behind : List ℕ)
      → IsTrue (is_hexadecimal digits)
      → Stops is_hex_digit behind
      → Spells (codes "0x" ++ digits) behind (value_in 16 digits)

-- a byte that may be a sign of its own
abbrev pub is_single : ℕ → Bool
is_single b = is_printable b && not (is_letter b || is_digit b)

-- a sign of two bytes, else one of one byte that opens neither such a sign nor a comment
abbrev pub IsSign : List ℕ → List ℕ → Type 0
IsSign [] behind = ⊥
IsSign (b ∷ []) behind =
    IsTrue (is_single b)
    × IsFalse (is_pair b (slice_index behind 0))
    × IsFalse (opens_comment (b ∷ behind))
IsSign (b ∷ c ∷ []) behind = IsTrue (is_pair b c)
IsSign (b ∷ c ∷ d ∷ more) behind = ⊥

-- the bytes of a token of this kind, with what stands after them
abbrev pub IsLexeme : TokenKind → List ℕ → List ℕ → Type 0
IsLexeme Name lexeme behind = IsTrue (is_name_text lexeme) × Stops is_name behind
IsLexeme Number lexeme behind = (n : ℕ) × Spells lexeme behind n × (n < 2 ^ 127)
IsLexeme Sign lexeme behind = IsSign lexeme behind
IsLexeme End lexeme behind = ⊥

-- a byte that may stand nowhere, a name of more than 64 bytes, or a number of 2 ^ 127 or more
pub data IsFault : List ℕ → Type 0 where
  stray : (b : ℕ) (behind : List ℕ) → IsFalse (is_white b || is_printable b) → IsFault (b ∷ behind)
  long_name : (b : ℕ) (bs behind : List ℕ)
      → IsTrue (is_letter b && list_all is_name bs)
      → Stops is_name behind
      → 64 < length (b ∷ bs)
      → IsFault ((b ∷ bs) ++ behind)
  large_number : (digits behind : List ℕ) (n : ℕ)
      → Spells digits behind n
      → 2 ^ 127 ≤ n
      → IsFault (digits ++ behind)

-- a token stands after this gap and has these bytes, where the gap begins at this byte and place
pub record Stands (at : ℕ) (p : Place) (gap lexeme : List ℕ) (t : Token) : Type 0 where
  pub start : t.start ≡ at + length gap
  pub end : t.end ≡ t.start + length lexeme
  pub place : t.place ≡ place_after p gap

-- the empty token of the end stands at this byte and place
pub record IsEnd (at : ℕ) (last : Place) (t : Token) : Type 0 where
  pub kind : t.kind ≡ End
  pub start : t.start ≡ at
  pub end : t.end ≡ at
  pub place : t.place ≡ last

-- A text that begins at this byte and place, and ends at the place before them, is cut into these
-- tokens: a gap, a token, and what stands after it, cut again; or a gap alone, and the end; or a
-- gap and a fault, which stands at its place.
unfoldable pub Cuts : Place → ℕ → Place → List ℕ → Lexemes → Type 0
Cuts last at p text (token t rest) =
    (gap lexeme behind : List ℕ)
    × (text ≡ gap ++ (lexeme ++ behind))
    × IsGap gap (lexeme ++ behind)
    × IsLexeme t.kind lexeme behind
    × Stands at p gap lexeme t
    × Cuts last t.end (place_after t.place lexeme) behind rest
Cuts last at p text (finish t) = IsGap text [] × IsEnd (at + length text) last t
Cuts last at p text (fault q) =
    (gap behind : List ℕ)
    × (text ≡ gap ++ behind)
    × IsGap gap behind
    × IsFault behind
    × (q ≡ place_after p gap)

-- the end, or a token whose bytes are those of the text from its start to its end
abbrev pub IsTokenOf : List ℕ → Token → Type 0
IsTokenOf text t =
    (t.kind ≡ End) ⊎ IsLexeme t.kind (slice_range text t.start t.end) (drop t.end text)
