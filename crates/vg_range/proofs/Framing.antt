-- What calls are given, argument by argument.
use Rattle.std.proofs.Common.{◌≡◌, ℕ, List, [], ◌∷◌, ◌++◌, drop, map, refl, ap}
use Rattle.vg_script.specs.Script.{Given, nothing}
use Rattle.vg_interval.specs.Found.{Passed, constant, computed, bits}
use Rattle.vg_range.specs.Walk.{constants_of, given_of}
use Rattle.vg_range.specs.Seen.{first_constant, given_first, given_onto}

pub constants_first : (w : ℕ) (ws : List ℕ) (given : List Passed)
    → constants_of (w ∷ ws) given ≡ first_constant w given ∷ constants_of ws (drop 1 given)
constants_first w ws [] = refl
constants_first w ws (p ∷ given) = refl

pub given_is : (given : List Passed) → given_onto given nothing ≡ given_of given
given_is [] = refl
given_is (constant n ∷ given) = ap (given_first (constant n)) (given_is given)
given_is (computed y ∷ given) = ap (given_first (computed y)) (given_is given)
given_is (bits r l w ∷ given) = ap (given_first (bits r l w)) (given_is given)

pub given_last : {A : Type 0} (f : A → Passed) (given : List A) (p : A) (rest : Given)
    → given_onto (map f (given ++ p ∷ [])) rest ≡ given_onto (map f given) (given_first (f p) rest)
given_last f [] p rest = refl
given_last f (q ∷ given) p rest = ap (given_first (f q)) (given_last f given p rest)
