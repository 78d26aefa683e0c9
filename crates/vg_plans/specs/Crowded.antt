-- Plans, and when a size of plans is crowded: then the search may leave plans of that size out.
use Rattle.std.specs.Prelude.{◌≡◌, ℕ, ◌<◌, ◌≤◌, Bool, true, List, [], ◌∷◌, ◌++◌, length}
use Rattle.vg_plans.specs.Levels.{chosen}
use Rattle.vg_plans.specs.Members.{Has, Every, AllDiffer}

-- the empty plan, and a plan with a pack that may follow it
pub data IsPlan {P : Type 0} (follows : List P → List P) : List P → Type 0 where
  empty : IsPlan follows []
  more : (plan : List P) (p : P) → IsPlan follows plan → Has p (follows plan)
      → IsPlan follows (plan ++ p ∷ [])

abbrev pub IsPlanOf : {P : Type 0} → (List P → List P) → ℕ → List P → Type 0
IsPlanOf follows d plan = IsPlan follows plan × (length plan ≡ d)

-- more than so many plans of d packs, no two of the same packs
abbrev pub Crowded : {P : Type 0}
    → (List P → List P) → (List P → List P → Bool) → ℕ → ℕ → Type 0
Crowded {P} follows same width d =
    (plans : List (List P))
    × (width < length plans)
    × Every (IsPlanOf follows d) plans
    × AllDiffer same plans

-- `same` goes by the packs alone, and so do what may follow a plan and what it costs
pub record GoesByPacks
    {P : Type 0} (follows : List P → List P) (same : List P → List P → Bool) (cost : List P → ℕ)
    : Type 0 where
  pub itself : (a : List P) → same a a ≡ true
  pub turned : (a b : List P) → same a b ≡ true → same b a ≡ true
  pub joined : (a b c : List P) → same a b ≡ true → same b c ≡ true → same a c ≡ true
  pub longer : (a b : List P) (p : P) → same a b ≡ true → same (a ++ p ∷ []) (b ++ p ∷ []) ≡ true
  pub follow : (a b : List P) (p : P) → IsPlan follows a → IsPlan follows b → same a b ≡ true
      → Has p (follows a) → Has p (follows b)
  pub costs : (a b : List P) → IsPlan follows a → IsPlan follows b → same a b ≡ true
      → cost a ≡ cost b

-- where no size below that of a plan is crowded, no plan of that size costs less than the chosen one
abbrev pub OptimalUnlessCrowded : {P : Type 0}
    → (List P → List P) → (List P → List P → Bool) → (List P → ℕ) → Type 0
OptimalUnlessCrowded {P} follows same cost =
    GoesByPacks follows same cost →
    (width sizes : ℕ) (plain plan : List P) → IsPlan follows plan → length plan ≤ sizes →
    ((e : ℕ) → e < length plan → Crowded follows same width e → ⊥) →
    cost (chosen follows same cost width sizes plain) ≤ cost plan
