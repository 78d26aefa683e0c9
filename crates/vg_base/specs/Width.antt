-- Widths of integers.
use Rattle.std.specs.Prelude.{ℕ, ◌/◌}
use Rattle.vg_base.specs.declared.width.Width.{Width}
use Rattle.vg_base.specs.declared.width.Width.TheVariants.{W8, W16, W32, W64}

-- in bits
abbrev pub bits_of : Width → ℕ
bits_of W8 = 8
bits_of W16 = 16
bits_of W32 = 32
bits_of W64 = 64

-- in bytes
abbrev pub size_of : Width → ℕ
size_of w = bits_of w / 8
