-- Members of lists.
use Rattle.std.specs.Prelude.{◌≡◌, ◌⊎◌, Bool, false, List, [], ◌∷◌}

-- x is in the list
abbrev pub Has : {X : Type 0} → X → List X → Type 0
Has x [] = ⊥
Has x (y ∷ ys) = (y ≡ x) ⊎ Has x ys

abbrev pub Every : {X : Type 0} → (X → Type 0) → List X → Type 0
Every P [] = Unit {0}
Every P (x ∷ xs) = P x × Every P xs

-- no two of the list are the same
abbrev pub AllDiffer : {X : Type 0} → (X → X → Bool) → List X → Type 0
AllDiffer same [] = Unit {0}
AllDiffer same (x ∷ xs) = Every (λ y. same x y ≡ false) xs × AllDiffer same xs
