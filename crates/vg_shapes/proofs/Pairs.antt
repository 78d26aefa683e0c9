-- Lists of pairs that are made of rows.
use Rattle.std.proofs.Common.{◌≡◌, ◌≢◌, ℕ, zero, suc, ◌+◌, ◌<◌, Bool, true, false, List, [], ◌∷◌, ◌++◌, map, refl, sym, ap, ◌∙◌, arith, get_or, append-nil}
use Rattle.std.specs.Prelude.{filter, nat_eq}
use Rattle.std.proofs.lemmas.Bool.{cond-true, cond-false, eq-eqb, ne_eqb}
use Rattle.std.proofs.lemmas.List.{map-append}
use Rattle.std.proofs.lemmas.List.Elements.{filter-append}
use Rattle.vg_shapes.specs.DepList.{pairs_from, row_of}

row_of-append : (xs ys : List (ℕ × ℕ)) (v : ℕ) → row_of (xs ++ ys) v ≡ row_of xs v ++ row_of ys v
row_of-append xs ys v = ap (map (λ p. p.1)) (filter-append (λ p. nat_eq p.0 v) xs ys) ∙ map-append (λ p. p.1) (filter (λ p. nat_eq p.0 v) xs) (filter (λ p. nat_eq p.0 v) ys)

row_of-own : (v : ℕ) (row : List ℕ) → row_of (map (λ x. (v, x)) row) v ≡ row
row_of-own v [] = refl
row_of-own v (x ∷ row) = ap (map (λ (p : ℕ × ℕ). p.1)) (cond-true _ _ _ (eq-eqb v v refl)) ∙ ap (λ l. x ∷ l) (row_of-own v row)

row_of-other : (v u : ℕ) (row : List ℕ) → v ≢ u → row_of (map (λ x. (v, x)) row) u ≡ []
row_of-other v u [] h = refl
row_of-other v u (x ∷ row) h = ap (map (λ (p : ℕ × ℕ). p.1)) (cond-false _ _ _ (ne_eqb v u h)) ∙ row_of-other v u row h

row_of-before : (v u : ℕ) (rows : List (List ℕ)) → u < v → row_of (pairs_from v rows) u ≡ []
row_of-before v u [] h = refl
row_of-before v u (row ∷ rows) h =
    row_of-append (map (λ x. (v, x)) row) (pairs_from (v + 1) rows) u
    ∙ ap (λ l. l ++ row_of (pairs_from (v + 1) rows) u) (row_of-other v u row (omega arith))
    ∙ row_of-before (v + 1) u rows (omega arith)

row_of-from : (v k : ℕ) (rows : List (List ℕ)) → row_of (pairs_from v rows) (v + k) ≡ get_or rows k []
row_of-from v k [] = refl
row_of-from v zero (row ∷ rows) =
    let here : v + 0 ≡ v = omega arith in
    ap (row_of (pairs_from v (row ∷ rows))) here
    ∙ row_of-append (map (λ x. (v, x)) row) (pairs_from (v + 1) rows) v
    ∙ (λ i. row_of-own v row i ++ row_of-before (v + 1) v rows (omega arith) i)
    ∙ append-nil row
row_of-from v (suc k) (row ∷ rows) =
    let next : v + suc k ≡ v + 1 + k = omega arith in
    row_of-append (map (λ x. (v, x)) row) (pairs_from (v + 1) rows) (v + suc k)
    ∙ ap (λ l. l ++ row_of (pairs_from (v + 1) rows) (v + suc k)) (row_of-other v (v + suc k) row (omega arith))
    ∙ ap (row_of (pairs_from (v + 1) rows)) next
    ∙ row_of-from (v + 1) k rows

-- the row of a unit
pub row_of-rows : (rows : List (List ℕ)) (k : ℕ) → row_of (pairs_from 0 rows) k ≡ get_or rows k []
row_of-rows rows k = let start : k ≡ 0 + k = omega arith in ap (row_of (pairs_from 0 rows)) start ∙ row_of-from 0 k rows
