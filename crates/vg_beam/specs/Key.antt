-- Sets of numbers that name packs, as rising lists.
use Rattle.std.specs.Prelude.{◌≡◌, ◌<◌, ℕ, suc, List, [], ◌∷◌, map, get_or, nat_lt, nat_eq, length, Bool, false, Option, Some, None, bytes_eq, if◌then◌else◌}
use Rattle.std.specs.List.{list_any}
use Rattle.vg_plans.specs.Members.{Every, Has}

-- each number is less than all after it
abbrev pub Rises : List ℕ → Type 0
Rises [] = Unit {0}
Rises (x ∷ xs) = Every (λ y. x < y) xs × Rises xs

-- a rising list with one number more, unless it is there
abbrev pub with_number : ℕ → List ℕ → List ℕ
with_number n [] = n ∷ []
with_number n (x ∷ xs) =
    if nat_lt n x then n ∷ x ∷ xs
    else if nat_eq n x then x ∷ xs
    else x ∷ with_number n xs

-- some key has these numbers
abbrev pub has_key : {V : Type 0} → (V → List ℕ) → List V → List ℕ → Bool
has_key numbers keys key = list_any (λ k. bytes_eq key (numbers k)) keys

-- numbers that name packs of a list, in their order
pub record Names {P : Type 0} (none : P) (packs : List P) (numbers : List ℕ) (named : List P) : Type 0 where
  pub names : map (λ n. get_or packs n none) numbers ≡ named
  pub inside : Every (λ n. n < length packs) numbers

-- a rising list of the numbers of the packs of a plan
pub record IsKey {P : Type 0} (none : P) (packs : List P) (key : List ℕ) (plan : List P) : Type 0 where
  pub rises : Rises key
  pub inside : Every (λ n. n < length packs) key
  pub there : (p : P) → Has p plan → Has p (map (λ n. get_or packs n none) key)
  pub back : (p : P) → Has p (map (λ n. get_or packs n none) key) → Has p plan

-- no pack stands twice
abbrev pub AreApart : {P : Type 0} → P → List P → Type 0
AreApart none packs =
    (m n : ℕ) → m < length packs → n < length packs
    → get_or packs m none ≡ get_or packs n none → m ≡ n

-- the first place of a value that passes a test, or the length of the list
abbrev pub first_place : {X : Type 0} → (X → Bool) → List X → ℕ
first_place test [] = 0
first_place test (x ∷ xs) = if test x then 0 else suc (first_place test xs)

abbrev pub is_number : ℕ → Option ℕ → Bool
is_number n None = false
is_number n (Some x) = nat_eq x n
