-- The least label of which something holds.
use Rattle.std.proofs.Common.{◌≡◌, Bool, true, false, List, [], ◌∷◌, Option, Some, None, refl, sym, ap, subst, ◌∙◌, inl, inr}
use Rattle.std.specs.Prelude.{◌||◌}
use Rattle.std.specs.List.{list_any}
use Rattle.std.proofs.lemmas.Bool.{cases_Bool, cond-true, cond-false}
use Rattle.vg_paired.specs.Balances.{IsLeast}
use Rattle.vg_events.specs.Events.{Label}
use Rattle.vg_known.specs.Labels.{is_before, least_label, lesser}
use Rattle.vg_events.specs.Ranks.{same_label}
use Rattle.vg_events.proofs.Ranks.{label-itself, same-labels}
use Rattle.vg_paired.proofs.Befores.{before-along, before-itself, neither-before}

pub least-same : (p q : Label → Bool) (o : Option Label) → ((l : Label) → q l ≡ p l) → IsLeast p o → IsLeast q o
least-same p q None same none = (λ l. same l ∙ none l)
least-same p q (Some b) same h = (same b ∙ h.0, λ l before. same l ∙ h.1 l before)

-- what comes before a label is another
before-differs : (l m : Label) → is_before l m ≡ true → same_label l m ≡ false
before-differs l m h = elim (cases_Bool (same_label l m)) [
  | inl t ↦ absurd (let yes : is_before m m ≡ true = subst (λ k. is_before k m ≡ true) (same-labels l m t) h in let no = before-itself m in cc)
  | inr f ↦ f
]

or-none : (a b : Bool) → a ≡ false → b ≡ false → (a || b) ≡ false
or-none a b h k = (λ i. h i || b) ∙ k

or-first : (a b : Bool) → a ≡ true → (a || b) ≡ true
or-first a b h = (λ i. h i || b)

or-second : (a b : Bool) → b ≡ true → (a || b) ≡ true
or-second true b h = refl
or-second false b h = h

-- one label more
pub least-more : (p q : Label → Bool) (o : Option Label) (m : Label) → ((l : Label) → q l ≡ (p l || same_label l m)) →
    IsLeast p o → IsLeast q (Some (lesser m o))
least-more p q None m more none = (
  more m ∙ or-second (p m) _ (label-itself m),
  λ l before. more l ∙ or-none _ _ (none l) (before-differs l m before),
)
least-more p q (Some b) m more h = elim (cases_Bool (is_before b m)) [
  | inl t ↦
      subst (λ c. IsLeast q (Some c)) (sym (cond-true _ _ _ t)) (
        more b ∙ or-first (p b) _ h.0,
        λ l before. more l ∙ or-none _ _ (h.1 l before) (before-differs l m (before-along l b m before t)),
      )
  | inr f ↦
      subst (λ c. IsLeast q (Some c)) (sym (cond-false _ _ _ f)) (
        more m ∙ or-second (p m) _ (label-itself m),
        λ l before. more l ∙ or-none _ _ (h.1 l (not-behind b m l f before)) (before-differs l m before),
      )
]
  where
    not-behind : (b m l : Label) → is_before b m ≡ false → is_before l m ≡ true → is_before l b ≡ true
    not-behind b m l f before = elim (cases_Bool (is_before m b)) [
      | inl t ↦ before-along l m b before t
      | inr g ↦ subst (λ k. is_before l k ≡ true) (sym (neither-before b m f g)) before
    ]

-- there is only one
pub least-one : (p : Label → Bool) (a b : Option Label) → IsLeast p a → IsLeast p b → a ≡ b
least-one p None None h k = refl
least-one p None (Some b) h k = absurd (let no = h b in let yes = k.0 in cc)
least-one p (Some a) None h k = absurd (let no = k a in let yes = h.0 in cc)
least-one p (Some a) (Some b) h k = elim (cases_Bool (is_before a b)) [
  | inl t ↦ absurd (let no = k.1 a t in let yes = h.0 in cc)
  | inr f ↦ elim (cases_Bool (is_before b a)) [
    | inl t ↦ absurd (let no = h.1 b t in let yes = k.0 in cc)
    | inr g ↦ ap Some (neither-before a b f g)
  ]
]

-- the least of a list
pub least-there : (xs : List Label) → IsLeast (λ l. list_any (same_label l) xs) (least_label xs)
least-there [] = (λ l. refl)
least-there (x ∷ xs) =
    least-more (λ l. list_any (same_label l) xs) (λ l. list_any (same_label l) (x ∷ xs)) (least_label xs) x
    (λ l. or-turned (same_label l x) (list_any (same_label l) xs)) (least-there xs)
  where
    or-turned : (a b : Bool) → (a || b) ≡ (b || a)
    or-turned true true = refl
    or-turned true false = refl
    or-turned false true = refl
    or-turned false false = refl
