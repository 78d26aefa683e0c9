-- What a byte of an instruction file or a kernel may be.
use Rattle.std.specs.Prelude.{ℕ, Bool, false, not, ◌&&◌, ◌||◌, ◌==◌, nat_lt, nat_le, List, [], ◌∷◌, length}
use Rattle.std.specs.List.{list_all}

-- space, tab, CR and LF
abbrev pub is_white : ℕ → Bool
is_white b = b == 32 || b == 9 || b == 13 || b == 10

-- a byte that shows a mark
abbrev pub is_printable : ℕ → Bool
is_printable b = nat_lt 32 b && nat_lt b 127

-- a letter or `_`
abbrev pub is_letter : ℕ → Bool
is_letter b = (nat_le 97 b && nat_le b 122) || ((nat_le 65 b && nat_le b 90) || b == 95)

-- a decimal digit
abbrev pub is_digit : ℕ → Bool
is_digit b = nat_le 48 b && nat_le b 57

-- a text that begins with a decimal digit
abbrev pub begins_digit : List ℕ → Bool
begins_digit [] = false
begins_digit (b ∷ bs) = is_digit b

-- a hexadecimal digit of either case
abbrev pub is_hex_digit : ℕ → Bool
is_hex_digit b = is_digit b || nat_le 97 b && nat_le b 102 || nat_le 65 b && nat_le b 70

-- what a name goes on with
abbrev pub is_name : ℕ → Bool
is_name b = is_letter b || is_digit b

-- a letter or `_`, then letters, digits and `_`, at most 64 bytes
abbrev pub is_name_text : List ℕ → Bool
is_name_text [] = false
is_name_text (b ∷ bs) = is_letter b && (list_all is_name bs && nat_le (length bs) 63)

-- what a comment goes on with, up to the end of its line
abbrev pub in_comment : ℕ → Bool
in_comment b = not (b == 10) && (is_white b || is_printable b)

-- the signs of two bytes: := == != <= >= << >>
abbrev pub is_pair : ℕ → ℕ → Bool
is_pair b c =
    (b == 58 || b == 61 || b == 33 || b == 60 || b == 62) && c == 61 || b == 60 && c == 60
    || b == 62 && c == 62
