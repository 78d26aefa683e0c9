-- Whether a comment is open at a place: `//` stands before it on its line.
use Rattle.std.specs.Prelude.{ℕ, zero, suc, ◌-◌, Bool, false, ◌||◌, ◌==◌, List, [], ◌∷◌, take, if◌then◌else◌}
use Rattle.vg_text.specs.declared.place.Place.{Place}
use Rattle.vg_text.specs.Token.{opens_comment}

-- a text without its first lines, so many
abbrev pub lines_behind : ℕ → List ℕ → List ℕ
lines_behind zero text = text
lines_behind (suc n) [] = []
lines_behind (suc n) (b ∷ bs) = if b == 10 then lines_behind n bs else lines_behind (suc n) bs

-- what stands before a place on its line
abbrev pub line_before : List ℕ → Place → List ℕ
line_before text p = take (p.column - 1) (lines_behind (p.line - 1) text)

abbrev pub has_comment : List ℕ → Bool
has_comment [] = false
has_comment (b ∷ bs) = opens_comment (b ∷ bs) || has_comment bs

abbrev pub is_in_comment : List ℕ → Place → Bool
is_in_comment text p = has_comment (line_before text p)
