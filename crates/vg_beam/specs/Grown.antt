-- Plans that grow by packs of a list, and the first of the least cost among many.
use Rattle.std.specs.Prelude.{ℕ, Bool, List, [], ◌∷◌, ◌++◌, filter, map, nat_lt, if◌then◌else◌, Option, Some}

-- the plan with each of these packs that passes a test
abbrev pub grown_by : {P : Type 0} → (P → Bool) → List P → List P → List (List P)
grown_by test plan ps = map (λ p. plan ++ p ∷ []) (filter test ps)

-- the first value of the least price below a bound, after one that was found
abbrev pub least_from : {C : Type 0} → (C → ℕ) → ℕ → Option C → List C → Option C
least_from price bound found [] = found
least_from price bound found (c ∷ cs) =
    if nat_lt (price c) bound then least_from price (price c) (Some c) cs
    else least_from price bound found cs
