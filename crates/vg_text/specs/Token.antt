-- The tokens of a text, one after the other.
use Rattle.std.specs.Prelude.{◌≡◌, ℕ, zero, suc, ◌+◌, ◌-◌, ◌^◌, ◌<◌, ◌≤◌, Bool, ◌&&◌, List, [], ◌∷◌, take, drop, Result, Ok, Err, ◌==◌, nat_lt, nat_le, slice_index, if◌then◌else◌}
use Rattle.std.specs.List.{prefix_len}
use Rattle.vg_text.specs.declared.place.Place.{Place}
use Rattle.vg_text.specs.declared.token.TokenKind.TheVariants.{Name, Number, Sign, End}
use Rattle.vg_text.specs.declared.token.Token.{Token}
use Rattle.vg_text.specs.declared.front.Front.{Front}
use Rattle.vg_text.specs.declared.front.Front.TheVariants.{Gap, Lexeme, Bad}
use Rattle.vg_text.specs.Byte.{is_white, is_printable, is_letter, is_digit, is_hex_digit, is_name, in_comment, is_pair}
use Rattle.vg_text.specs.Number.{value_in}
use Rattle.vg_text.specs.Place.{place_behind}

-- `//`
abbrev pub opens_comment : List ℕ → Bool
opens_comment text = slice_index text 0 == 47 && slice_index text 1 == 47

-- `0x` and a hexadecimal digit
abbrev pub opens_hexadecimal : List ℕ → Bool
opens_hexadecimal text =
    slice_index text 0 == 48 && slice_index text 1 == 120 && is_hex_digit (slice_index text 2)

-- a comment goes up to the end of its line
abbrev pub comment_front : List ℕ → Front
comment_front text = Gap (2 + prefix_len in_comment (drop 2 text))

-- a letter or `_`, then letters, digits and `_`, at most 64 bytes in all
abbrev pub name_front : List ℕ → Front
name_front text =
    let len = 1 + prefix_len is_name (drop 1 text) in
    if nat_le len 64 then Lexeme Name len else Bad

-- digits make a number below 2 ^ 127
abbrev pub number_front : ℕ → List ℕ → ℕ → Front
number_front base digits len =
    if nat_lt (value_in base digits) (2 ^ 127) then Lexeme Number len else Bad

-- decimal digits
abbrev pub decimal_front : List ℕ → Front
decimal_front text =
    let len = 1 + prefix_len is_digit (drop 1 text) in
    number_front 10 (take len text) len

-- `0x` and hexadecimal digits
abbrev pub hexadecimal_front : List ℕ → Front
hexadecimal_front text =
    let len = 1 + prefix_len is_hex_digit (drop 3 text) in
    number_front 16 (take len (drop 2 text)) (2 + len)

-- a sign of two bytes, else one of one byte
abbrev pub sign_front : List ℕ → Front
sign_front text =
    if is_pair (slice_index text 0) (slice_index text 1) then Lexeme Sign 2
    else if is_printable (slice_index text 0) then Lexeme Sign 1
    else Bad

-- what stands at the front of a text: white space or a comment, the longest token, or a byte, name
-- or number that is none
unfoldable pub front_of : List ℕ → Front
front_of text =
    if is_white (slice_index text 0) then Gap 1
    else if opens_comment text then comment_front text
    else if is_letter (slice_index text 0) then name_front text
    else if opens_hexadecimal text then hexadecimal_front text
    else if is_digit (slice_index text 0) then decimal_front text
    else sign_front text

-- it takes a byte or more, and none past the text
abbrev pub IsWithin : Front → ℕ → Type 0
IsWithin (Gap n) len = (0 < n) × (n ≤ len)
IsWithin (Lexeme kind n) len = (0 < n) × (n ≤ len)
IsWithin Bad len = Unit {0}

-- the tokens of a text up to its end, or up to the place of the first byte, name or number that is
-- none
pub data Lexemes : Type 0 where
  token : Token → Lexemes → Lexemes
  finish : Token → Lexemes
  fault : Place → Lexemes

-- what a front makes of the text after it, which goes on by `more`
abbrev pub from_front : Front → ℕ → Place → (ℕ → Lexemes) → Lexemes
from_front (Gap n) at p more = more n
from_front (Lexeme kind n) at p more =
    token (record { kind = kind; start = at; end = at + n; place = p }) (more n)
from_front Bad at p more = fault p

-- the tokens of a text of which `skip` bytes more are taken, and which begins at this byte and
-- place; the end of the whole text stands at the first of the two places
unfoldable pub lex : Place → ℕ → ℕ → Place → List ℕ → Lexemes
lex last skip at p [] = finish (record { kind = End; start = at; end = at; place = last })
lex last (suc skip) at p (b ∷ bs) = lex last skip (at + 1) (place_behind p b) bs
lex last zero at p (b ∷ bs) =
    from_front (front_of (b ∷ bs)) at p (λ n. lex last (n - 1) (at + 1) (place_behind p b) bs)

-- a call that takes the next token answers it, the end or the fault; the last two stay
abbrev pub Takes : Lexemes → Result Token Place → Lexemes → Type 0
Takes (token t rest) result left = (result ≡ Ok t) × (left ≡ rest)
Takes (finish t) result left = (result ≡ Ok t) × (left ≡ finish t)
Takes (fault p) result left = (result ≡ Err p) × (left ≡ fault p)
