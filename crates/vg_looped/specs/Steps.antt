-- The steps of all pointers, and those of the pointers that move.
use Rattle.std.specs.Prelude.{ℕ, zero, suc, ◌+◌, List, [], ◌∷◌, ◌==◌, if◌then◌else◌}

-- a pointer and its step
abbrev pub Pair : Type 0
Pair = ℕ × ℕ

-- the pointers that have a step, by their numbers from k on
unfoldable pub stepped : ℕ → List ℕ → List Pair
stepped k [] = []
stepped k (s ∷ ss) = if s == 0 then stepped (k + 1) ss else (k, s) ∷ stepped (k + 1) ss

-- a step for each of so many pointers from k on
unfoldable pub steps_of : ℕ → ℕ → List Pair → List ℕ
steps_of k zero xs = []
steps_of k (suc n) [] = 0 ∷ steps_of (k + 1) n []
steps_of k (suc n) (x ∷ xs) =
    if x.0 == k then x.1 ∷ steps_of (k + 1) n xs else 0 ∷ steps_of (k + 1) n (x ∷ xs)

-- the step of this pointer where no pair is of an earlier one, and the pairs that are left
unfoldable pub step_for : ℕ → List Pair → ℕ × List Pair
step_for k [] = (0, [])
step_for k (x ∷ xs) = if x.0 == k then (x.1, xs) else (0, x ∷ xs)
