-- Texts with a mark, `@`.
use Rattle.std.specs.Prelude.{ℕ, ◌+◌, List, ◌++◌, length, take, drop, position, ◌==◌, nat_le, Option, None, if◌then◌else◌}
use Rattle.std.specs.Option.{option_map}
use Rattle.vg_text.specs.declared.place.Place.{Place}
use Rattle.vg_text.specs.Place.{first_place, place_after}
use Rattle.vg_marked.specs.declared.marked.Marked.{Marked}

-- what a row is without its first mark, and the place of what stands after that
abbrev pub unmarked : List ℕ → Option (List ℕ × Place)
unmarked row =
    if nat_le (length row) 1000000
    then option_map (λ i. (take i row ++ drop (i + 1) row, place_after first_place (take i row)))
    (position (λ b. b == 64) row)
    else None

-- what a row is found to be
abbrev pub shown : Option Marked → Option (List ℕ × Place)
shown m = option_map (λ (m : Marked). (m.text.items, m.place)) m
