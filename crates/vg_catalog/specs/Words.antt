-- The words of headers. A header word goes up to white space, a comment or the end of the input, and may be
-- made of several tokens.
use Rattle.std.specs.Prelude.{ℕ, Bool, true, false, ◌&&◌, ◌||◌, ◌==◌, List, [], length, take, drop, slice_index, slice_range, Option, Some, None, Result, Ok, Err, nat_le, codes, if◌then◌else◌}
use Rattle.std.specs.Str.{bytes_eq}
use Rattle.vg_base.specs.Bind.{◌>>=◌, or_fault}
use Rattle.vg_text.specs.Byte.{is_white}
use Rattle.vg_text.specs.Cut.{is_hexadecimal}
use Rattle.vg_text.specs.Number.{is_decimal}
use Rattle.vg_text.specs.Token.{Lexemes, token, finish, fault, opens_comment}
use Rattle.vg_text.specs.Words.{Reading, Spelled}
use Rattle.vg_pseudo.specs.Words.{number_of}
use Rattle.vg_catalog.specs.declared.fault.CatalogFault.{CatalogFault}
use Rattle.vg_catalog.specs.declared.fault.CatalogFault.TheVariants.{Token, Header}

-- white space, a comment or the end of the input stands here, so that no word goes on
abbrev pub ends_word : List ℕ → Bool
ends_word rest = length rest == 0 || is_white (slice_index rest 0) || opens_comment rest

-- Where the word that goes on up to this byte ends, and the tokens after it; or the place of a byte, name or
-- number in it that is no token.
unfoldable pub end_of_word : List ℕ → ℕ → Lexemes → Result (ℕ × Lexemes) CatalogFault
end_of_word text end (token t rest) =
    if ends_word (drop end text) then Ok (end, token t rest) else end_of_word text t.end rest
end_of_word text end (finish t) = Ok (end, finish t)
end_of_word text end (fault p) = if ends_word (drop end text) then Ok (end, fault p) else Err (Token p)

-- the next header word of a text; the end of the input is an empty word
abbrev pub word_from : List ℕ → Lexemes → Result (Spelled × Reading) CatalogFault
word_from text (token t rest) =
    end_of_word text t.end rest >>= λ e. Ok (
      record {
        bytes = slice_range text t.start e.0;
        place = t.place;
        is_end = false;
      },
      record {
        text = text;
        left = e.1;
      },
    )
word_from text (finish t) =
    Ok (
      record {
        bytes = [];
        place = t.place;
        is_end = true;
      },
      record {
        text = text;
        left = finish t;
      },
    )
word_from text (fault p) = Err (Token p)

-- the next header word of what is left
abbrev pub next_word : Reading → Result (Spelled × Reading) CatalogFault
next_word r = word_from r.text r.left

-- this very word
abbrev pub this_word : List ℕ → Reading → Result (Spelled × Reading) CatalogFault
this_word text r = next_word r >>= λ w. if bytes_eq w.0.bytes text then Ok w else Err (Header w.0.place)

-- whether this very word comes next, which is taken then
abbrev pub optional_word : List ℕ → Reading → Result (Bool × Reading) CatalogFault
optional_word text r = next_word r >>= λ w. if bytes_eq w.0.bytes text then Ok (true, w.1) else Ok (false, r)

-- the number that a word spells
abbrev pub is_number : List ℕ → Bool
is_number bytes = is_decimal bytes || bytes_eq (take 2 bytes) (codes "0x") && is_hexadecimal (drop 2 bytes)

abbrev pub number_in_word : List ℕ → Option ℕ
number_in_word bytes = if is_number bytes then number_of bytes else None

-- the number, where it is one of these
abbrev pub between : ℕ → ℕ → Option ℕ → Option ℕ
between low high (Some n) = if nat_le low n && nat_le n high then Some n else None
between low high None = None

-- a number of these
abbrev pub number_word : ℕ → ℕ → Reading → Result (ℕ × Reading) CatalogFault
number_word low high r =
    next_word r >>= λ w. or_fault (between low high (number_in_word w.0.bytes)) (Header w.0.place) >>= λ n. Ok (n, w.1)
