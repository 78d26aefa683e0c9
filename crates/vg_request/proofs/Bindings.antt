-- The words that bind parameters, one at a time.
use Rattle.std.proofs.Common.{◌≡◌, ℕ, ◌+◌, Bool, true, false, List, [], ◌∷◌, ◌++◌, drop, map, Some, None, refl, sym, ◌∙◌, ap}
use Rattle.std.specs.List.{list_all, slice_get}
use Rattle.std.proofs.lemmas.List.{drop_more}
use Rattle.std.proofs.lemmas.Option.{slice_get_within, get_or_from_slice_get}
use Rattle.vg_request.specs.declared.binding.Bound.{Bound}
use Rattle.vg_request.specs.Binding.{binding_of, binding_seen, bindings_in}

-- the element that is read is the first of what is left
drop_at_get : {X : Type 0} (xs : List X) (i : ℕ) (x : X) → slice_get xs i ≡ Some x → drop i xs ≡ x ∷ drop (i + 1) xs
drop_at_get xs i x e = drop_more xs i x (slice_get_within xs i x e) ∙ ap (λ y. y ∷ drop (i + 1) xs) (get_or_from_slice_get xs i x x e)

-- a test of all that is left, at an element that passes and at one that does not
pub all_more : {X : Type 0} (test : X → Bool) (xs : List X) (i : ℕ) (x : X) → slice_get xs i ≡ Some x → test x ≡ true → list_all test (drop (i + 1) xs) ≡ list_all test (drop i xs)
all_more test xs i x e passes = rw (drop_at_get xs i x e, passes) refl

pub all_stop : {X : Type 0} (test : X → Bool) (xs : List X) (i : ℕ) (x : X) → slice_get xs i ≡ Some x → test x ≡ false → list_all test (drop i xs) ≡ false
all_stop test xs i x e fails = rw (drop_at_get xs i x e, fails) refl

-- the next word is a binding, or it is not
pub binding_more : (all after : List Bound) (b : Bound) (ws : List (List ℕ)) (i : ℕ) (w : List ℕ) → slice_get ws i ≡ Some w → Some (binding_seen b) ≡ binding_of w → after ≡ all ++ b ∷ []
    → map binding_seen after ++ bindings_in (drop (i + 1) ws) ≡ map binding_seen all ++ bindings_in (drop i ws)
binding_more all after b ws i w e is put = rw (put, drop_at_get ws i w e, sym is) (joined all)
  where
    joined : (before : List Bound) → map binding_seen (before ++ b ∷ []) ++ bindings_in (drop (i + 1) ws) ≡ map binding_seen before ++ binding_seen b ∷ bindings_in (drop (i + 1) ws)
    joined [] = refl
    joined (x ∷ xs) = ap (λ l. binding_seen x ∷ l) (joined xs)

pub binding_none : (all : List Bound) (ws : List (List ℕ)) (i : ℕ) (w : List ℕ) → slice_get ws i ≡ Some w → None ≡ binding_of w
    → map binding_seen all ++ bindings_in (drop (i + 1) ws) ≡ map binding_seen all ++ bindings_in (drop i ws)
binding_none all ws i w e is = rw (drop_at_get ws i w e, sym is) refl
