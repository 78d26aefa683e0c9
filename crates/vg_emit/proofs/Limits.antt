-- How many values a sound kernel has.
use Rattle.std.proofs.Common.{◌≡◌, ◌+◌, ◌≤◌, Bool, List, [], ◌∷◌, length, refl, ap, arith, inl, inr}
use Rattle.std.specs.Prelude.{filter, not}
use Rattle.std.proofs.lemmas.Bool.{cases_Bool, cond-true, cond-false}
use Rattle.vg_shapes.specs.declared.ssa.Ssa.{Ssa}
use Rattle.vg_shapes.specs.Sound.{is_store, IsSound}
use Rattle.vg_shapes.specs.Units.{arguments, is_integer}

fewer : {X : Type 0} (p : X → Bool) (xs : List X) → length (filter p xs) ≤ length xs
fewer p [] = omega arith
fewer p (x ∷ xs) = elim (cases_Bool (p x)) [
  | inl t ↦ omega (arith, ap length (cond-true (p x) (x ∷ filter p xs) (filter p xs) t), fewer p xs)
  | inr f ↦ omega (arith, ap length (cond-false (p x) (x ∷ filter p xs) (filter p xs) f), fewer p xs)
]

both : {X : Type 0} (p : X → Bool) (xs : List X) → length xs ≡ length (filter p xs) + length (filter (λ x. not (p x)) xs)
both p [] = refl
both p (x ∷ xs) = elim (cases_Bool (p x)) [
  | inl t ↦ omega (arith, ap length (cond-true (p x) (x ∷ filter p xs) (filter p xs) t), ap length (cond-false (not (p x)) (x ∷ filter (λ y. not (p y)) xs) (filter (λ y. not (p y)) xs) (ap not t)), both p xs)
  | inr f ↦ omega (arith, ap length (cond-false (p x) (x ∷ filter p xs) (filter p xs) f), ap length (cond-true (not (p x)) (x ∷ filter (λ y. not (p y)) xs) (filter (λ y. not (p y)) xs) (ap not f)), both p xs)
]

pub few-values : (ssa : Ssa) → IsSound ssa → arguments ssa + length ssa.units ≤ 12304
few-values ssa sound =
    omega (arith, fewer (λ p. is_integer p.kind) ssa.params, both is_store ssa.units, sound.params, sound.stores, sound.uses)
