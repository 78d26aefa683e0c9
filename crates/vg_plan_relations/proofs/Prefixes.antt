-- Prefixes of plans: they are plans, and each pack may follow those before it.
use Rattle.std.proofs.Common.{◌≡◌, ◌⊎◌, List, [], ◌∷◌, ◌++◌, refl, sym, ◌∙◌, ap, subst, inl, inr, append_assoc}
use Rattle.vg_plans.specs.Crowded.{IsPlan, empty, more}
use Rattle.vg_plans.specs.Members.{Has}

-- a list that ends with a pack, cut in two
split-last : {P : Type 0} (xs ys zs : List P) (p : P) → xs ++ p ∷ [] ≡ ys ++ zs
    → (ys ≡ xs ++ p ∷ []) ⊎ ((a : List P) × (xs ≡ ys ++ a))
split-last xs [] zs p e = inr (xs, refl)
split-last [] (y ∷ []) zs p e = inl (cc)
split-last [] (y ∷ (z ∷ ys)) zs p e = absurd (cc)
split-last (x ∷ xs) (y ∷ ys) zs p e =
    let first : x ≡ y = cc in
    let rest : xs ++ p ∷ [] ≡ ys ++ zs = cc in
    elim (split-last xs ys zs p rest) [
      | inl f ↦ inl (ap (λ z. z ∷ ys) (sym first) ∙ ap (λ l. x ∷ l) f)
      | inr k ↦ inr (k.0, ap (λ z. z ∷ xs) first ∙ ap (λ l. y ∷ l) k.1)
    ]

no-last : {P : Type 0} (xs : List P) (p : P) → [] ≡ xs ++ p ∷ [] → ⊥
no-last [] p e = absurd (cc)
no-last (x ∷ xs) p e = absurd (cc)

same-last : {P : Type 0} (xs ys : List P) (p q : P) → xs ++ p ∷ [] ≡ ys ++ q ∷ [] → (xs ≡ ys) × (p ≡ q)
same-last [] [] p q e = (refl, cc)
same-last [] (y ∷ ys) p q e = absurd (no-last ys q (cc))
same-last (x ∷ xs) [] p q e = absurd (no-last xs p (cc))
same-last (x ∷ xs) (y ∷ ys) p q e =
    let first : x ≡ y = cc in
    let rest : xs ++ p ∷ [] ≡ ys ++ q ∷ [] = cc in
    let k = same-last xs ys p q rest in
    (ap (λ z. z ∷ xs) first ∙ ap (λ l. y ∷ l) k.0, k.1)

pub prefix-plan : {P : Type 0} (f : List P → List P) (plan : List P) → IsPlan f plan → (before after : List P) → plan ≡ before ++ after → IsPlan f before
prefix-plan f _ empty [] after e = empty
prefix-plan f _ empty (b ∷ before) after e = absurd (cc)
prefix-plan f _ (more plan p is h) before after e = elim (split-last plan before after p e) [
  | inl same ↦ subst (IsPlan f) (sym same) (more plan p is h)
  | inr k ↦ prefix-plan f plan is before k.0 k.1
]

last-follows : {P : Type 0} (f : List P → List P) (plan : List P) → IsPlan f plan → (xs : List P) (p : P) → plan ≡ xs ++ p ∷ [] → Has p (f xs)
last-follows f _ empty xs p e = absurd (no-last xs p e)
last-follows f _ (more plan q is h) xs p e =
    let k = same-last plan xs q p e in
    subst (λ x. Has x (f xs)) k.1 (subst (λ l. Has q (f l)) k.0 h)

pub at-pack : {P : Type 0} (f : List P → List P) (plan : List P) → IsPlan f plan → (before after : List P) (p : P) → plan ≡ before ++ p ∷ after → Has p (f before)
at-pack f plan is before after p e =
    let cut : plan ≡ (before ++ p ∷ []) ++ after = e ∙ sym (append_assoc before (p ∷ []) after) in
    last-follows f (before ++ p ∷ []) (prefix-plan f plan is (before ++ p ∷ []) after cut) before p refl
