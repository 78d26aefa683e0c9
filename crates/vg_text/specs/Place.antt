-- Places in a text: a line feed ends a line, and each other byte is one column.
use Rattle.std.specs.Prelude.{ℕ, ◌+◌, ◌-◌, List, [], ◌∷◌, length, take, ◌==◌, if◌then◌else◌}
use Rattle.vg_text.specs.declared.place.Place.{Place}

-- where a text begins
abbrev pub first_place : Place
first_place = record { line = 1; column = 1 }

-- one byte further
abbrev pub place_behind : Place → ℕ → Place
place_behind p b =
    if b == 10 then record { line = p.line + 1; column = 1 }
    else record { line = p.line; column = p.column + 1 }

-- after these bytes
unfoldable pub place_after : Place → List ℕ → Place
place_after p [] = p
place_after p (b ∷ bs) = place_after (place_behind p b) bs

-- one column further
abbrev pub next_column : Place → Place
next_column p = record { line = p.line; column = p.column + 1 }

-- where a text ends: one column past its last byte, on that byte's line; an empty text where it
-- begins
unfoldable pub end_place : List ℕ → Place
end_place text =
    if length text == 0 then first_place
    else next_column (place_after first_place (take (length text - 1) text))
