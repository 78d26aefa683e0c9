-- Rows of more than one line.
use Rattle.std.specs.Prelude.{ℕ, ◌==◌, if◌then◌else◌}

-- a bar stands for a line feed
abbrev pub byte_of : ℕ → ℕ
byte_of b = if b == 124 then 10 else b
