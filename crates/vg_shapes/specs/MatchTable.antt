-- Tables of matches.
use Rattle.std.specs.Prelude.{◌≡◌, ℕ, ◌&&◌, ◌||◌, Bool, true, List, [], ◌∷◌, nat_eq, nat_lt}
use Rattle.std.specs.List.{AllByRecursion}
use Rattle.vg_shapes.specs.declared.match_table.Match.{Match}

-- a match stands before the place of a lane and a value, by value, then description, then lane
abbrev pub stands_before : ℕ → ℕ → ℕ → Match → Bool
stands_before d lane v m =
    nat_lt m.value v
    || (nat_eq m.value v
    && (nat_lt m.description d || (nat_eq m.description d && nat_lt m.lane lane)))

-- matches by value, then description, then lane, no two with the same three
abbrev pub IsTable : List Match → Type 0
IsTable [] = Unit {0}
IsTable (m ∷ ms) =
    AllByRecursion (λ n. stands_before n.description n.lane n.value m ≡ true) ms × IsTable ms
