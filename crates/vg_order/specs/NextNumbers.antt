-- Which node is next behind those that are done, where nodes have numbers.
use Rattle.std.specs.Prelude.{◌≡◌, ◌<◌, ◌≤◌, ℕ, List, [], ◌∷◌, ◌++◌, length, ◌⊎◌}
use Rattle.vg_shapes.specs.Order.{count_of, Stands}
use Rattle.vg_order.specs.declared.graph.Graph.{Graph}
use Rattle.vg_order.specs.Paths.{home_at, needs_at}

-- of these units the first whose node is not done
abbrev pub IsFirstLeft : (ℕ → ℕ) → List ℕ → List ℕ → ℕ → Type 0
IsFirstLeft home done us x =
    (front : List ℕ) × (rest : List ℕ) × (us ≡ front ++ x ∷ rest)
    × ((y : ℕ) → Stands y front → Stands (home y) done)
    × (count_of (home x) done ≡ 0)

-- from a node by the nodes of these units to a last one, each being the first that the node before needs
abbrev pub EndsAt : (ℕ → List ℕ) → (ℕ → ℕ) → List ℕ → ℕ → List ℕ → ℕ → Type 0
EndsAt needs home done n [] last =
    (n ≡ last) × ((y : ℕ) → Stands y (needs n) → Stands (home y) done)
EndsAt needs home done n (x ∷ xs) last =
    IsFirstLeft home done (needs n) x × EndsAt needs home done (home x) xs last

-- the nodes of the units from a first one up to this one are done
abbrev pub AreDoneUpTo : (ℕ → ℕ) → List ℕ → ℕ → ℕ → Type 0
AreDoneUpTo home done first unit = (x : ℕ) → first ≤ x → x < unit → Stands (home x) done

-- the end of a way that begins at the node of the least unit that is left
abbrev pub IsNextOfUnits : List (ℕ × ℕ) → Graph → List ℕ → ℕ → Type 0
IsNextOfUnits deps g done n =
    (u : ℕ) × (us : List ℕ) × (g.first ≤ u) × (u < length g.homes)
    × AreDoneUpTo (home_at g) done g.first u
    × (count_of (home_at g u) done ≡ 0)
    × EndsAt (needs_at deps g) (home_at g) done (home_at g u) us n

-- where no unit is left, the least node that is left
abbrev pub IsNextOfRest : Graph → List ℕ → ℕ → Type 0
IsNextOfRest g done n =
    AreDoneUpTo (home_at g) done g.first (length g.homes)
    × ((m : ℕ) → m < n → Stands m done)
    × (count_of n done ≡ 0)

abbrev pub IsNextNumber : List (ℕ × ℕ) → Graph → List ℕ → ℕ → Type 0
IsNextNumber deps g done n = IsNextOfUnits deps g done n ⊎ IsNextOfRest g done n

-- each is next behind those that are done and those that stand before it
abbrev pub AreNext : List (ℕ × ℕ) → Graph → List ℕ → List ℕ → Type 0
AreNext deps g done [] = Unit {0}
AreNext deps g done (n ∷ ns) =
    IsNextNumber deps g done n × AreNext deps g (done ++ n ∷ []) ns
