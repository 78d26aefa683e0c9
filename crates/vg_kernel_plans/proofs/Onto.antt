-- What lists give is left out as it comes, one member after the other.
use Rattle.std.proofs.Common.{◌≡◌, ℕ, ◌+◌, ◌<◌, ◌≤◌, List, [], ◌++◌, length, drop, get_or, sym, ◌∙◌, ap, Bool}
use Rattle.std.proofs.lemmas.List.{drop_all, drop_more}
use Rattle.std.specs.List.{flat_map}
use Rattle.vg_plans.specs.Levels.{distinct, distinct_onto}
use Rattle.vg_plans.proofs.Onto.{onto-append, onto-distinct}

pub onto-step : {X Y : Type 0} (same : Y → Y → Bool) (f : X → List Y) (xs : List X) (k : ℕ) (x : X) (found more taken : List Y)
    → k < length xs → x ≡ get_or xs k x → taken ≡ f x → more ≡ distinct_onto same found taken
    → distinct_onto same more (flat_map f (drop (k + 1) xs)) ≡ distinct_onto same found (flat_map f (drop k xs))
onto-step same f xs k x found more taken inside is e m =
    let rest = flat_map f (drop (k + 1) xs) in
    let whole : flat_map f (drop k xs) ≡ f x ++ rest =
    ap (flat_map f) (drop_more xs k x inside) ∙ ap (λ y. f y ++ rest) (sym is)
    in
    ap (λ ys. distinct_onto same ys rest) (m ∙ ap (distinct_onto same found) e)
    ∙ sym (onto-append same found (f x) rest) ∙ ap (distinct_onto same found) (sym whole)

pub onto-end : {X Y : Type 0} (same : Y → Y → Bool) (f : X → List Y) (xs : List X) (k : ℕ) (found : List Y)
    → length xs ≤ k → distinct_onto same found (flat_map f (drop k xs)) ≡ distinct_onto same [] (flat_map f xs)
    → found ≡ distinct same (flat_map f xs)
onto-end same f xs k found past e =
    ap (λ ys. distinct_onto same found (flat_map f ys)) (sym (drop_all k xs past)) ∙ e ∙ onto-distinct same (flat_map f xs)
