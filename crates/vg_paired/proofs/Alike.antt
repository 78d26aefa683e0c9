-- Equal labels.
use Rattle.std.proofs.Common.{◌≡◌, true, sym, subst, ◌∙◌, inl, inr}
use Rattle.std.proofs.lemmas.Bool.{cases_Bool}
use Rattle.vg_events.specs.Events.{Label}
use Rattle.vg_events.specs.Ranks.{same_label}
use Rattle.vg_events.proofs.Ranks.{label-itself, same-labels}

-- the test may be turned
pub turned : (a b : Label) → same_label a b ≡ same_label b a
turned a b = elim (cases_Bool (same_label a b)) [
  | inl t ↦ t ∙ sym (subst (λ c. same_label c a ≡ true) (same-labels a b t) (label-itself a))
  | inr f ↦ elim (cases_Bool (same_label b a)) [
    | inl t ↦ absurd (let yes : same_label a b ≡ true = subst (λ c. same_label c b ≡ true) (same-labels b a t) (label-itself b) in cc)
    | inr g ↦ f ∙ sym g
  ]
]
