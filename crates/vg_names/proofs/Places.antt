-- The first place at which a test passes, by two definitions.
use Rattle.std.proofs.Common.{◌≡◌, ℕ, ◌+◌, Bool, true, false, List, [], ◌∷◌, map, Option, Some, None, refl, ◌∙◌, ap, arith}
use Rattle.std.specs.Prelude.{position}
use Rattle.std.specs.List.{position_from}
use Rattle.std.specs.Option.{option_map}
use Rattle.std.proofs.lemmas.Iterator.Adapters.{position_from-zero}
use Rattle.vg_pseudo.specs.Names.{first_place}

twice : (k : ℕ) (o : Option ℕ)
    → option_map (λ (j : ℕ). j + (k + 1)) o ≡ option_map (λ (j : ℕ). j + k) (option_map (λ (j : ℕ). j + 1) o)
twice k None = refl
twice k (Some j) = ap Some (omega arith)

none-moved : (o : Option ℕ) → option_map (λ (j : ℕ). j + 0) o ≡ o
none-moved None = refl
none-moved (Some j) = ap Some (omega arith)

place_from : {A B : Type 0} (f : A → B) (p : B → Bool) (k : ℕ) (xs : List A)
    → position_from (λ x. p (f x)) k xs ≡ option_map (λ (j : ℕ). j + k) (first_place p (map f xs))
place_from f p k [] = refl
place_from f p k (x ∷ xs) = by (p (f x)) refl (place_from f p (k + 1) xs)
  where
    by : (b : Bool) → p (f x) ≡ b → position_from (λ x. p (f x)) (k + 1) xs ≡ option_map (λ (j : ℕ). j + (k + 1)) (first_place p (map f xs))
        → position_from (λ x. p (f x)) k (x ∷ xs) ≡ option_map (λ (j : ℕ). j + k) (first_place p (map f (x ∷ xs)))
    by true e behind = rw e (ap Some (omega arith))
    by false e behind = rw e (behind ∙ twice k (first_place p (map f xs)))

-- where what passes is seen by a view
pub position_is_place : {A B : Type 0} (f : A → B) (p : B → Bool) (xs : List A)
    → position (λ x. p (f x)) xs ≡ first_place p (map f xs)
position_is_place f p xs = position_from-zero (λ x. p (f x)) xs ∙ place_from f p 0 xs ∙ none-moved (first_place p (map f xs))

same-list : {A : Type 0} (xs : List A) → map (λ x. x) xs ≡ xs
same-list [] = refl
same-list (x ∷ xs) = ap (λ ys. x ∷ ys) (same-list xs)

pub position_is_first : {A : Type 0} (p : A → Bool) (xs : List A) → position p xs ≡ first_place p xs
position_is_first p xs = position_is_place (λ x. x) p xs ∙ ap (first_place p) (same-list xs)
