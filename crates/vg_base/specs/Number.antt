-- Whole numbers and their low bits in two's complement. Bits defines the lists of bits that stand for them.
use Rattle.std.specs.Prelude.{ℕ, ◌-◌, ◌/◌, ◌%◌, ◌^◌, ℤ, pos, negsuc}

-- the number below 2 ^ w that is z modulo 2 ^ w: that of the w lowest bits of z
abbrev pub residue : ℕ → ℤ → ℕ
residue w (pos n) = n % 2 ^ w
residue w (negsuc n) = 2 ^ w - 1 - n % 2 ^ w

-- z over 2 ^ k, rounded down
abbrev pub floor_shift : ℤ → ℕ → ℤ
floor_shift (pos n) k = pos (n / 2 ^ k)
floor_shift (negsuc n) k = negsuc (n / 2 ^ k)

-- beside its sign bit, a whole number in two's complement needs the bits of this number
abbrev pub magnitude : ℤ → ℕ
magnitude (pos n) = n
magnitude (negsuc n) = n

-- the least and the greatest number of w bits in two's complement
abbrev pub least_signed : ℕ → ℤ
least_signed w = negsuc (2 ^ (w - 1) - 1)

abbrev pub greatest_signed : ℕ → ℤ
greatest_signed w = pos (2 ^ (w - 1) - 1)
