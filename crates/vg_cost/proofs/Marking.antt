-- Numbers marked one list after the other.
use Rattle.std.proofs.Common.{◌≡◌, ℕ, zero, suc, ◌+◌, ◌<◌, ◌≤◌, Bool, true, false, List, [], ◌∷◌, ◌++◌, length, get_or, take, refl, sym, ◌∙◌, ap, subst, arith}
use Rattle.std.specs.Prelude.{Option, nat_eq, ◌||◌, replicate}
use Rattle.std.proofs.lemmas.List.{length-replicate, take_all, take_more}
use Rattle.std.proofs.lemmas.List.Folds.{list_any-append}
use Rattle.std.specs.List.{filter_map}
use Rattle.std.proofs.lemmas.List.Elements.{filter_map-append}
use Rattle.vg_plans.specs.World.{is_in}
use Rattle.vg_cost.specs.Marks.{Has, Marked}

get_or_clear : (n v : ℕ) → get_or (replicate n false) v false ≡ false
get_or_clear zero v = refl
get_or_clear (suc n) zero = refl
get_or_clear (suc n) (suc v) = get_or_clear n v

pub marked_none : (marks : List Bool) → Marked [] marks marks
marked_none marks = record { long = refl; each = λ v h. refl }

or-swap : (a b c : Bool) → a || (b || c) ≡ (b || a) || c
or-swap true true c = refl
or-swap true false c = refl
or-swap false true c = refl
or-swap false false c = refl

pub marked_more : (xs ys : List ℕ) (a b c : List Bool) → Marked xs a b → Marked ys b c → Marked (xs ++ ys) a c
marked_more xs ys a b c p q = record {
  long = q.long ∙ p.long;
  each = λ v h.
      let inside : v < length b = let l = p.long in omega arith in
      q.each v inside ∙ ap (λ t. is_in v ys || t) (p.each v h) ∙ or-swap (is_in v ys) (is_in v xs) (get_or a v false)
      ∙ ap (λ t. t || get_or a v false) (sym (list_any-append (nat_eq v) xs ys));
}

or-false : (b : Bool) → (b || false) ≡ b
or-false true = refl
or-false false = refl

pub marked_step : {X : Type 0} (F : List X → List ℕ) (xs : List X) (k : ℕ) (x d : X) (a b c : List Bool)
    → ((ys zs : List X) → F (ys ++ zs) ≡ F ys ++ F zs) → k < length xs → x ≡ get_or xs k d
    → Marked (F (take k xs)) a b → Marked (F (x ∷ [])) b c → Marked (F (take (k + 1) xs)) a c
marked_step F xs k x d a b c app inside is p q =
    let whole : take (k + 1) xs ≡ take k xs ++ x ∷ [] =
    take_more xs k d inside ∙ ap (λ y. take k xs ++ y ∷ []) (sym is)
    in
    subst (λ ys. Marked (F ys) a c) (sym whole)
    (subst (λ l. Marked l a c) (sym (app (take k xs) (x ∷ []))) (marked_more (F (take k xs)) (F (x ∷ [])) a b c p q))

pub marked_all : {X : Type 0} (F : List X → List ℕ) (xs : List X) (k : ℕ) (a b : List Bool)
    → length xs ≤ k → Marked (F (take k xs)) a b → Marked (F xs) a b
marked_all F xs k a b past p = subst (λ ys. Marked (F ys) a b) (take_all k xs past) p

-- marks that were all clear
pub has_marked : (count : ℕ) (list : List ℕ) (clear marks : List Bool) → clear ≡ replicate count false
    → Marked list clear marks → Has count list marks
has_marked count list clear marks e m = record {
  long = m.long ∙ ap length e ∙ length-replicate count false;
  each = λ v h.
      let inside : v < length clear = let l = ap length e ∙ length-replicate count false in omega arith in
      let none : get_or clear v false ≡ false = ap (λ l. get_or l v false) e ∙ get_or_clear count v in
      m.each v inside ∙ ap (λ b. is_in v list || b) none ∙ or-false (is_in v list);
}

-- three numbers that lists of one may have
pub marked_three : {X : Type 0} (f : X → Option ℕ) (x y z : X) (a b c d : List Bool)
    → Marked (filter_map f (x ∷ [])) a b → Marked (filter_map f (y ∷ [])) b c → Marked (filter_map f (z ∷ [])) c d
    → Marked (filter_map f (x ∷ y ∷ z ∷ [])) a d
marked_three f x y z a b c d p q r =
    subst (λ l. Marked l a d)
    (sym (filter_map-append f (x ∷ []) (y ∷ z ∷ [])
    ∙ ap (λ l. filter_map f (x ∷ []) ++ l) (filter_map-append f (y ∷ []) (z ∷ []))))
    (marked_more _ _ a b d p (marked_more _ _ b c d q r))
