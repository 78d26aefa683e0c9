-- Words that end with a width, as `load32`, `i16` and `Truncate8`.
use Rattle.std.specs.Prelude.{ℕ, List, length, take, drop, Option, Some, None, codes, if◌then◌else◌}
use Rattle.std.specs.Str.{bytes_eq}
use Rattle.vg_base.specs.declared.width.Width.{Width}
use Rattle.vg_base.specs.declared.width.Width.TheVariants.{W8, W16, W32, W64}

-- the width that a word spells
abbrev pub width_of : List ℕ → Option Width
width_of bytes =
    if bytes_eq bytes (codes "8") then Some W8
    else if bytes_eq bytes (codes "16") then Some W16
    else if bytes_eq bytes (codes "32") then Some W32
    else if bytes_eq bytes (codes "64") then Some W64
    else None

-- the width after this stem, where the word is the stem and a width
abbrev pub width_behind : List ℕ → List ℕ → Option Width
width_behind stem bytes =
    if bytes_eq (take (length stem) bytes) stem then width_of (drop (length stem) bytes) else None
