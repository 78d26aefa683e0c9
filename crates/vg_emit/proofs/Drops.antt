-- What is left of a list, one member on.
use Rattle.std.proofs.Common.{◌≡◌, ℕ, ◌+◌, ◌<◌, List, ◌∷◌, ◌++◌, length, drop, get_or, sym, ap, ◌∙◌}
use Rattle.std.proofs.lemmas.List.{drop_more}
use Rattle.std.specs.List.{flat_map}

pub next-is : {X : Type 0} (xs : List X) (k : ℕ) (x : X) → k < length xs → x ≡ get_or xs k x → drop k xs ≡ x ∷ drop (k + 1) xs
next-is xs k x inside is = drop_more xs k x inside ∙ ap (λ y. y ∷ drop (k + 1) xs) (sym is)

pub flat_map-next : {X Y : Type 0} (f : X → List Y) (xs : List X) (k : ℕ) (x : X) → k < length xs → x ≡ get_or xs k x → flat_map f (drop k xs) ≡ f x ++ flat_map f (drop (k + 1) xs)
flat_map-next f xs k x inside is = ap (flat_map f) (next-is xs k x inside is)
