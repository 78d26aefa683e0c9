-- Numbers by their digits, the highest first.
use Rattle.std.specs.Prelude.{ℕ, ◌+◌, ◌-◌, ◌*◌, ◌^◌, Bool, not, ◌&&◌, List, [], ◌∷◌, length, Option, Some, None, nat_lt, nat_le, ◌==◌, if◌then◌else◌}
use Rattle.std.specs.List.{list_all}
use Rattle.vg_text.specs.Byte.{is_digit}

-- what a decimal or hexadecimal digit of either case stands for
abbrev pub digit_value : ℕ → ℕ
digit_value b = if nat_le 97 b then b - 87 else if nat_le 65 b then b - 55 else b - 48

-- the number that these digits make after those that made n
unfoldable pub value_from : ℕ → ℕ → List ℕ → ℕ
value_from base n [] = n
value_from base n (d ∷ ds) = value_from base (n * base + digit_value d) ds

-- the number of a list of digits
abbrev pub value_in : ℕ → List ℕ → ℕ
value_in base ds = value_from base 0 ds

-- one or more decimal digits
abbrev pub is_decimal : List ℕ → Bool
is_decimal text = not (length text == 0) && list_all is_digit text

-- the decimal number that a text spells, where it is below 2 ^ 128
unfoldable pub decimal_value : List ℕ → Option ℕ
decimal_value text =
    if is_decimal text && nat_lt (value_in 10 text) (2 ^ 128) then Some (value_in 10 text) else None
