-- Plans grown by one pack at a time, level by level, over any type of packs: what may follow a plan, which two
-- plans have the same packs, and what a plan costs are given.
use Rattle.std.specs.Prelude.{ℕ, zero, suc, Bool, List, [], ◌∷◌, ◌++◌, map, length, take, nat_le, nat_lt, if◌then◌else◌, flat_map}
use Rattle.std.specs.List.{list_any}

-- the values that no earlier value is the same as; `seen` stand before them
abbrev pub distinct_from : {X : Type 0} → (X → X → Bool) → List X → List X → List X
distinct_from same seen [] = []
distinct_from same seen (x ∷ xs) =
    if list_any (same x) seen then distinct_from same seen xs
    else x ∷ distinct_from same (x ∷ seen) xs

abbrev pub distinct : {X : Type 0} → (X → X → Bool) → List X → List X
distinct same xs = distinct_from same [] xs

-- x stands before the first value that has no lesser key
abbrev pub insert_by : {X : Type 0} → (X → ℕ) → X → List X → List X
insert_by key x [] = x ∷ []
insert_by key x (y ∷ ys) = if nat_le (key x) (key y) then x ∷ y ∷ ys else y ∷ insert_by key x ys

-- by rising key, an earlier value first among equal keys
abbrev pub sort_by : {X : Type 0} → (X → ℕ) → List X → List X
sort_by key [] = []
sort_by key (x ∷ xs) = insert_by key x (sort_by key xs)

-- all of them where there are no more than so many, else the first so many by rising key
abbrev pub kept_of : {X : Type 0} → (X → ℕ) → ℕ → List X → List X
kept_of key width xs = if nat_le (length xs) width then xs else take width (sort_by key xs)

-- the first of the least key, in a list that begins with `best`
abbrev pub first_least : {X : Type 0} → (X → ℕ) → X → List X → X
first_least key best [] = best
first_least key best (x ∷ xs) = first_least key (if nat_lt (key x) (key best) then x else best) xs

-- the plan with each pack that may follow it
abbrev pub grown : {P : Type 0} → (List P → List P) → List P → List (List P)
grown follows plan = map (λ p. plan ++ p ∷ []) (follows plan)

-- each plan of the level with each pack that may follow it, but for those whose packs an earlier one has
abbrev pub candidates : {P : Type 0}
    → (List P → List P) → (List P → List P → Bool) → List (List P) → List (List P)
candidates follows same level = distinct same (flat_map (grown follows) level)

-- the plans of so many packs that are kept
unfoldable pub level_of : {P : Type 0}
    → (List P → List P) → (List P → List P → Bool) → (List P → ℕ) → ℕ → ℕ → List (List P)
level_of follows same cost width zero = [] ∷ []
level_of follows same cost width (suc d) =
    kept_of cost width (candidates follows same (level_of follows same cost width d))

-- the plans of one pack more than so many that are met
abbrev pub met_after : {P : Type 0}
    → (List P → List P) → (List P → List P → Bool) → (List P → ℕ) → ℕ → ℕ → List (List P)
met_after follows same cost width d = candidates follows same (level_of follows same cost width d)

-- all plans that are met, up to so many packs
unfoldable pub met_within : {P : Type 0}
    → (List P → List P) → (List P → List P → Bool) → (List P → ℕ) → ℕ → ℕ → List (List P)
met_within follows same cost width zero = []
met_within follows same cost width (suc d) =
    met_within follows same cost width d ++ met_after follows same cost width d

-- all plans that are kept, from one pack up to so many
unfoldable pub kept_within : {P : Type 0}
    → (List P → List P) → (List P → List P → Bool) → (List P → ℕ) → ℕ → ℕ → List (List P)
kept_within follows same cost width zero = []
kept_within follows same cost width (suc d) =
    kept_within follows same cost width d ++ level_of follows same cost width (suc d)

-- the first of least cost: the empty plan, the plan `plain`, and all that are met
abbrev pub chosen : {P : Type 0}
    → (List P → List P) → (List P → List P → Bool) → (List P → ℕ) → ℕ → ℕ → List P → List P
chosen follows same cost width sizes plain =
    first_least cost [] (plain ∷ met_within follows same cost width sizes)

-- the same list, one value after the other added to those that stay
abbrev pub distinct_onto : {X : Type 0} → (X → X → Bool) → List X → List X → List X
distinct_onto same done [] = done
distinct_onto same done (x ∷ xs) =
    distinct_onto same (if list_any (same x) done then done else done ++ x ∷ []) xs
