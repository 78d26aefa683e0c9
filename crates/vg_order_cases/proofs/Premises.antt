-- Packs and dependences that may be put into an order.
use Rattle.std.proofs.Common.{◌≡◌, ℕ, zero, suc, ◌+◌, ◌-◌, ◌<◌, ◌≤◌, Bool, true, false, List, [], ◌∷◌, ◌++◌, length, Option, Some, None, refl, sym, ap, subst, ◌∙◌, inl, inr, arith, get_or, append-nil}
use Rattle.std.specs.Prelude.{nat_eq, nat_le, nat_lt, slice_get, ◌==◌, ◌||◌, ◌&&◌, if◌then◌else◌}
use Rattle.std.specs.List.{list_all, list_any}
use Rattle.std.specs.Option.{is_some}
use Rattle.std.proofs.lemmas.Bool.{and_parts, cases_Bool, cond-false, cond-true, eq-eqb, eqb-true, false≢true, le-ltb, leb-false, ltb-true, or_cases, or_parts, true≢false}
use Rattle.vg_shapes.specs.declared.pack.Pack.{Pack}
use Rattle.vg_shapes.specs.declared.pack.Pack.TheVariants.{Loads}
use Rattle.vg_shapes.specs.declared.ssa.Ssa.{Ssa}
use Rattle.vg_shapes.specs.DepList.{pairs_from}
use Rattle.vg_shapes.specs.Nodes.{ArePacks, packed}
use Rattle.vg_shapes.specs.Order.{count_of, one_if}
use Rattle.vg_shapes.specs.Units.{arguments, is_unit}
use Rattle.vg_shapes.proofs.Pairs.{row_of-rows}
use Rattle.vg_order.specs.ByList.{NameUnits}
use Rattle.vg_order_cases.specs.Inputs.{are_below, are_once, HasUnits}

below-unit : (ssa : Ssa) (count x : ℕ) → HasUnits ssa count → x < count → is_unit ssa x ≡ true
below-unit ssa count x has h =
    let first = has.first in
    let long = has.long in
    ap is_some (cond-false _ _ _ (le-ltb x (arguments ssa) (omega arith))) ∙ there ssa.units (x - arguments ssa) (omega arith)
  where
    there : {A : Type 0} (xs : List A) (k : ℕ) → k < length xs → is_some (slice_get xs k) ≡ true
    there [] k h = absurd (omega arith)
    there (x ∷ xs) zero h = refl
    there (x ∷ xs) (suc k) h = there xs k (omega arith)

not-among : (u : ℕ) (us : List ℕ) → list_any (λ x. nat_eq x u) us ≡ false → count_of u us ≡ 0
not-among u [] h = refl
not-among u (y ∷ ys) h =
    let both = or_parts _ _ h in
    let none : one_if (u == y) ≡ 0 = elim (cases_Bool (u == y)) [
      | inl t ↦ absurd (true≢false (sym (eq-eqb y u (sym (eqb-true u y t))) ∙ both.0))
      | inr f ↦ ap one_if f
    ] in
    let rest = not-among u ys both.1 in
    omega arith

once-counts : (ssa : Ssa) (count : ℕ) (us : List ℕ) (v : ℕ) → HasUnits ssa count → are_once count us ≡ true → count_of v us ≤ one_if (is_unit ssa v)
once-counts ssa count [] v has e = omega arith
once-counts ssa count (u ∷ us) v has e = elim (cases_Bool (nat_le count u || list_any (λ x. nat_eq x u) us)) [
  | inl t ↦ absurd (false≢true (sym (cond-true _ _ _ t) ∙ e))
  | inr f ↦
      let both = or_parts _ _ f in
      let rest = once-counts ssa count us v has (sym (cond-false _ _ _ f) ∙ e) in
      elim (cases_Bool (v == u)) [
        | inl t ↦
            let same : v ≡ u = eqb-true v u t in
            let one : one_if (v == u) ≡ 1 = ap one_if t in
            let none : count_of v us ≡ 0 = ap (λ n. count_of n us) same ∙ not-among u us both.1 in
            let low = leb-false count u both.0 in
            let unit : one_if (is_unit ssa v) ≡ 1 = ap one_if (below-unit ssa count v has (omega arith)) in
            omega arith
        | inr g ↦ (let none : one_if (v == u) ≡ 0 = ap one_if g in omega arith)
      ]
]

pub two-packs : (ssa : Ssa) (count : ℕ) (first second : List ℕ) → HasUnits ssa count → are_once count (first ++ second) ≡ true → ArePacks ssa (Loads first ∷ Loads second ∷ [])
two-packs ssa count first second has e = record {
  once = λ v. subst (λ l. count_of v (first ++ l) ≤ one_if (is_unit ssa v)) (sym (append-nil second)) (once-counts ssa count (first ++ second) v has e);
  calls = (tt, (tt, tt));
}

pub no-packs : (ssa : Ssa) → ArePacks ssa []
no-packs ssa = record { once = λ v. omega arith; calls = tt }

row-below : (count x : ℕ) (row : List ℕ) → list_all (λ y. nat_lt y count) row ≡ true → list_any (nat_eq x) row ≡ true → x < count
row-below count x [] all e = absurd (cc)
row-below count x (y ∷ ys) all e =
    let both = and_parts _ _ all in
    elim (or_cases _ _ e) [
      | inl here ↦ (let same = eqb-true x y here in let less = ltb-true y count both.0 in omega arith)
      | inr rest ↦ row-below count x ys both.1 rest
    ]

rows-below : (count v x : ℕ) (rows : List (List ℕ)) → are_below count rows ≡ true → list_any (nat_eq x) (get_or rows v []) ≡ true → x < count
rows-below count v x [] all e = absurd (cc)
rows-below count zero x (r ∷ rows) all e = row-below count x r (and_parts _ _ all).0 e
rows-below count (suc v) x (r ∷ rows) all e = rows-below count v x rows (and_parts _ _ all).1 e

pub names-units : (ssa : Ssa) (count : ℕ) (rows : List (List ℕ)) → HasUnits ssa count → are_below count rows ≡ true → NameUnits ssa (pairs_from 0 rows)
names-units ssa count rows has all v x e =
    below-unit ssa count x has (rows-below count v x rows all (sym (ap (list_any (nat_eq x)) (row_of-rows rows v)) ∙ e))
