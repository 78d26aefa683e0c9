-- A recipe stays where the new pack has none of the operand's values.
use Rattle.std.proofs.Common.{◌≡◌, ℕ, ◌+◌, Bool, true, false, List, [], ◌∷◌, ◌++◌, length, refl, sym, ◌∙◌, ap, inl, inr}
use Rattle.std.specs.Prelude.{◌||◌, if◌then◌else◌, min}
use Rattle.std.specs.List.{list_any, list_all}
use Rattle.std.proofs.lemmas.Bool.{cases_Bool}
use Rattle.vg_plans.specs.Members.{Has}
use Rattle.vg_plans.specs.World.{World, can_shuffle, least_shuffle, is_reused, recipe_cost, inserted}
use Rattle.vg_plans.specs.Recipes.{GivesOwnValues, IsOther}

any-behind : {X : Type 0} (test : X → Bool) (xs : List X) (x : X) → test x ≡ false → list_any test (xs ++ x ∷ []) ≡ list_any test xs
any-behind test [] x f = rw f refl
any-behind test (y ∷ xs) x f = ap (λ b. test y || b) (any-behind test xs x f)

all-members : {X : Type 0} (f g : X → Bool) (xs : List X) → ((x : X) → Has x xs → f x ≡ g x) → list_all f xs ≡ list_all g xs
all-members f g [] e = refl
all-members f g (x ∷ xs) e = rw (e x (inl refl), all-members f g xs (λ y h. e y (inr h))) refl

any-members : {X : Type 0} (f g : X → Bool) (xs : List X) → ((x : X) → Has x xs → f x ≡ g x) → list_any f xs ≡ list_any g xs
any-members f g [] e = refl
any-members f g (x ∷ xs) e = rw (e x (inl refl), any-members f g xs (λ y h. e y (inr h))) refl

module _ {P O N : Type 0} (w : World P O N) (own : GivesOwnValues w) (plan : List P) (p : P) (o : O) (other : IsOther w p o) where
  not-held : w.holds p o ≡ false
  not-held = elim (cases_Bool (w.holds p o)) [
    | inl t ↦ absurd (let k = own.holds_one p o t in let f = other k.0 k.1 in let u = k.2 in let e : true ≡ false = sym u ∙ f in cc)
    | inr f ↦ f
  ]

  not-given : (s : ℕ × List N) (n : N) → Has s (w.shuffles o) → Has n s.1 → w.gives p n ≡ false
  not-given s n hs hn = elim (cases_Bool (w.gives p n)) [
    | inl t ↦ absurd (let k = own.gives_one p o s n hs hn t in let f = other k.0 k.1 in let u = k.2 in let e : true ≡ false = sym u ∙ f in cc)
    | inr f ↦ f
  ]

  pub reused-keeps : is_reused w (plan ++ p ∷ []) o ≡ is_reused w plan o
  reused-keeps = any-behind (λ q. w.holds q o) plan p not-held

  can-keeps : (s : ℕ × List N) → Has s (w.shuffles o) → can_shuffle w (plan ++ p ∷ []) s ≡ can_shuffle w plan s
  can-keeps s h = all-members (λ n. list_any (λ q. w.gives q n) (plan ++ p ∷ [])) (λ n. list_any (λ q. w.gives q n) plan) s.1 (λ n k. any-behind (λ q. w.gives q n) plan p (not-given s n h k))

  least-keeps : (cost : ℕ) (ss : List (ℕ × List N)) → ((s : ℕ × List N) → Has s ss → Has s (w.shuffles o)) → least_shuffle w (plan ++ p ∷ []) cost ss ≡ least_shuffle w plan cost ss
  least-keeps cost [] i = refl
  least-keeps cost (s ∷ ss) i = rw (can-keeps s (i s (inl refl))) (least-keeps (if can_shuffle w plan s then min s.0 cost else cost) ss (λ x h. i x (inr h)))

  pub recipe-keeps : recipe_cost w (plan ++ p ∷ []) o ≡ recipe_cost w plan o
  recipe-keeps = rw (reused-keeps, least-keeps (1 + length (w.values_of o)) (w.shuffles o) (λ s h. h)) refl

  pub inserted-keeps : inserted w (plan ++ p ∷ []) o ≡ inserted w plan o
  inserted-keeps = rw (reused-keeps, any-members (can_shuffle w (plan ++ p ∷ [])) (can_shuffle w plan) (w.shuffles o) can-keeps) refl
