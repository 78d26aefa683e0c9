-- One element more of what a loop has walked.
use Rattle.std.proofs.Common.{◌≡◌, ℕ, zero, suc, ◌+◌, ◌<◌, ◌≤◌, List, [], ◌∷◌, ◌++◌, length, get_or, map, take, sym, ◌∙◌, ap, append_assoc, arith, subst}
use Rattle.std.specs.Prelude.{Option}
use Rattle.std.specs.List.{AllByRecursion, filter_map, flat_map, sum_by}
use Rattle.std.proofs.lemmas.List.{map-append}
use Rattle.std.proofs.lemmas.List.Elements.{filter_map-append}
use Rattle.std.proofs.lemmas.List.{append-nil, take_all, take_more}
use Rattle.std.proofs.lemmas.List.Sums.{sum_by_push}
use Rattle.std.proofs.lemmas.Grind.{flat_map-append}

module _ {X : Type 0} (xs : List X) (k : ℕ) (d x : X) (inside : k < length xs) (is : x ≡ get_or xs k d) where
  one_more : take (k + 1) xs ≡ take k xs ++ x ∷ []
  one_more = take_more xs k d inside ∙ ap (λ y. take k xs ++ y ∷ []) (sym is)

  pub sum_more : (f : X → ℕ) (sum cost next : ℕ) → sum ≡ sum_by f (take k xs) → cost ≡ f x
      → next ≡ sum + cost → next ≡ sum_by f (take (k + 1) xs)
  sum_more f sum cost next s e n =
      n ∙ ap (λ t. t + cost) s ∙ ap (λ t. sum_by f (take k xs) + t) e
      ∙ sym (sum_by_push f (take k xs) x) ∙ sym (ap (sum_by f) one_more)

  pub flat_more : {Y : Type 0} (f : X → List Y) (all more next : List Y) → all ≡ flat_map f (take k xs)
      → more ≡ f x → next ≡ all ++ more → next ≡ flat_map f (take (k + 1) xs)
  flat_more f all more next a e n =
      n ∙ ap (λ t. t ++ more) a ∙ ap (λ t. flat_map f (take k xs) ++ t) (e ∙ sym (append-nil (f x)))
      ∙ sym (flat_map-append f (take k xs) (x ∷ [])) ∙ sym (ap (flat_map f) one_more)

  pub map_more : {Y : Type 0} (f : X → Y) (all next : List Y) (y : Y) → all ≡ map f (take k xs) → y ≡ f x
      → next ≡ all ++ y ∷ [] → next ≡ map f (take (k + 1) xs)
  map_more f all next y a e n =
      n ∙ ap (λ t. t ++ y ∷ []) a ∙ ap (λ z. map f (take k xs) ++ z ∷ []) e
      ∙ sym (map-append f (take k xs) (x ∷ [])) ∙ sym (ap (map f) one_more)

  pub filter_map_more : {Y : Type 0} (f : X → Option Y) (start all next : List Y) → all ≡ start ++ filter_map f (take k xs)
      → next ≡ all ++ filter_map f (x ∷ []) → next ≡ start ++ filter_map f (take (k + 1) xs)
  filter_map_more f start all next a n =
      n ∙ ap (λ t. t ++ filter_map f (x ∷ [])) a ∙ append_assoc start (filter_map f (take k xs)) (filter_map f (x ∷ []))
      ∙ ap (λ t. start ++ t) (sym (filter_map-append f (take k xs) (x ∷ [])) ∙ sym (ap (filter_map f) one_more))

-- what holds of all members holds of each
pub all_at : {X : Type 0} (P : X → Type 0) (xs : List X) (k : ℕ) (x d : X) → AllByRecursion P xs → k < length xs
    → x ≡ get_or xs k d → P x
all_at P [] k x d a inside is = absurd (omega arith)
all_at P (y ∷ xs) zero x d a inside is = subst P (sym is) a.0
all_at P (y ∷ xs) (suc k) x d a inside is = all_at P xs k x d a.1 (omega arith) is

pub all_push : {X : Type 0} (P : X → Type 0) (xs : List X) (x : X) → AllByRecursion P xs → P x → AllByRecursion P (xs ++ x ∷ [])
all_push P [] x a p = (p, a)
all_push P (y ∷ xs) x a p = (a.0, all_push P xs x a.1 p)

pub map_all : {X Y : Type 0} (xs : List X) (k : ℕ) → length xs ≤ k → (f : X → Y) (all : List Y) → all ≡ map f (take k xs)
    → all ≡ map f xs
map_all xs k past f all a = a ∙ ap (map f) (take_all k xs past)
