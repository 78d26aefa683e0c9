-- Adding one value after the other gives the distinct ones.
use Rattle.std.proofs.Common.{◌≡◌, Bool, true, false, List, [], ◌∷◌, ◌++◌, refl, sym, ◌∙◌, inl, inr, append_assoc, append-nil}
use Rattle.std.specs.Prelude.{if◌then◌else◌}
use Rattle.std.specs.List.{list_any}
use Rattle.std.proofs.lemmas.Bool.{cases_Bool}
use Rattle.vg_plans.specs.Levels.{distinct_from, distinct, distinct_onto}
use Rattle.vg_plans.proofs.Members.{SameMembers, any-same, has-append, has-left, has-right}

pub onto-append : {X : Type 0} (same : X → X → Bool) (done xs ys : List X) → distinct_onto same done (xs ++ ys) ≡ distinct_onto same (distinct_onto same done xs) ys
onto-append same done [] ys = refl
onto-append same done (x ∷ xs) ys = onto-append same (if list_any (same x) done then done else done ++ x ∷ []) xs ys

-- `seen` has what `done` has
onto-from : {X : Type 0} (same : X → X → Bool) (done seen xs : List X) → SameMembers done seen → distinct_onto same done xs ≡ done ++ distinct_from same seen xs
onto-from same done seen [] s = sym (append-nil done)
onto-from same done seen (x ∷ xs) s =
    let e = any-same (same x) done seen s in
    elim (cases_Bool (list_any (same x) seen)) [
      | inl t ↦ let u : list_any (same x) done ≡ true = e ∙ t in rw (u, t) (onto-from same done seen xs s)
      | inr f ↦ let u : list_any (same x) done ≡ false = e ∙ f in rw (u, f) (
          onto-from same (done ++ x ∷ []) (x ∷ seen) xs (record {
            there = λ y h. elim (has-append y done (x ∷ []) h) [ inl l ↦ inr (s.there y l) | inr r ↦ elim r [ inl q ↦ inl q | inr none ↦ absurd none ] ];
            back = λ y h. elim h [ inl q ↦ has-right y done (x ∷ []) (inl q) | inr r ↦ has-left y done (x ∷ []) (s.back y r) ];
          }) ∙ append_assoc done (x ∷ []) (distinct_from same (x ∷ seen) xs))
    ]

pub onto-distinct : {X : Type 0} (same : X → X → Bool) (xs : List X) → distinct_onto same [] xs ≡ distinct same xs
onto-distinct same xs = onto-from same [] [] xs (record { there = λ y h. h; back = λ y h. h })
