-- Whether places stay near.
use Rattle.std.specs.Prelude.{ℕ, ◌+◌, ◌*◌, ◌^◌, List, [], ◌∷◌, Bool, true, false, nat_lt, ◌&&◌}

-- whether there is a place for each step, and each is of 64 bits after so many turns
abbrev pub stay_near : List ℕ → ℕ → List ℕ → Bool
stay_near [] n [] = true
stay_near [] n (p ∷ ps) = false
stay_near (s ∷ ss) n [] = false
stay_near (s ∷ ss) n (p ∷ ps) = nat_lt (p + n * s) (2 ^ 64) && stay_near ss n ps
