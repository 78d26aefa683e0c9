-- Places that were found to stay near do.
use Rattle.std.proofs.Common.{◌≡◌, ℕ, suc, ◌+◌, ◌*◌, ◌<◌, ◌^◌, Bool, true, false, List, [], ◌∷◌, length, refl, ap}
use Rattle.std.specs.Prelude.{nat_lt}
use Rattle.std.proofs.lemmas.Bool.{and_parts, ltb-true}
use Rattle.vg_loop_laws.specs.Inputs.{StayNear}
use Rattle.vg_loops.specs.Near.{stay_near}

pub near-told : (ss : List ℕ) (n : ℕ) (ps : List ℕ) → stay_near ss n ps ≡ true → StayNear ss n ps
near-told [] n [] e = tt
near-told [] n (p ∷ ps) e = absurd (cc)
near-told (s ∷ ss) n [] e = absurd (cc)
near-told (s ∷ ss) n (p ∷ ps) e =
    let parts = and_parts (nat_lt (p + n * s) (2 ^ 64)) (stay_near ss n ps) e in
    (ltb-true (p + n * s) (2 ^ 64) parts.0, near-told ss n ps parts.1)

pub as-many : (ss : List ℕ) (n : ℕ) (ps : List ℕ) → stay_near ss n ps ≡ true → length ps ≡ length ss
as-many [] n [] e = refl
as-many [] n (p ∷ ps) e = absurd (cc)
as-many (s ∷ ss) n [] e = absurd (cc)
as-many (s ∷ ss) n (p ∷ ps) e = ap suc (as-many ss n ps (and_parts (nat_lt (p + n * s) (2 ^ 64)) (stay_near ss n ps) e).1)
