-- The list that is made of the rows has exactly the pairs of the definition.
use Rattle.std.proofs.Common.{◌≡◌, ◌≢◌, ℕ, zero, suc, ◌+◌, ◌-◌, ◌<◌, ◌≤◌, Bool, true, false, List, [], ◌∷◌, ◌++◌, length, map, Option, Some, None, refl, sym, ap, ◌∙◌, arith, inl, inr, get_or}
use Rattle.std.specs.Prelude.{filter, nat_eq, nat_lt, slice_get, ◌&&◌, ◌||◌}
use Rattle.std.specs.List.{flat_map, list_any}
use Rattle.std.specs.Option.{option_map_or}
use Rattle.std.proofs.lemmas.Bool.{cases_Bool, cases_lt, cond-true, cond-false, lt-ltb, le-ltb, eqb-true, eqb-false}
use Rattle.vg_base.specs.Trap.{◌>>=◌}
use Rattle.vg_shapes.specs.declared.access.Access.{Access}
use Rattle.vg_shapes.specs.declared.ssa.Ssa.{Ssa}
use Rattle.vg_shapes.specs.DepList.{is_listed, pairs_from}
use Rattle.vg_shapes.specs.Depends.{conflict_at, conflict_of, depended, dependences, depends_on, numbers_below, uses_at}
use Rattle.vg_shapes.specs.Layout.{access_at, access_of, noalias_flags}
use Rattle.vg_shapes.specs.Order.{numbers_from}
use Rattle.vg_shapes.specs.Units.{arguments, is_unit, unit_at, uses_value}
use Rattle.vg_shapes.proofs.Pairs.{row_of-rows}
use Rattle.vg_deps.specs.Independent.{ListsDependences}

pub pairs-of_rows : (f : ℕ → List ℕ) (v n : ℕ) → pairs_from v (map f (numbers_from v n)) ≡ flat_map (λ u. map (λ x. (u, x)) (f u)) (numbers_from v n)
pairs-of_rows f v zero = refl
pairs-of_rows f v (suc n) = ap (λ l. map (λ x. (v, x)) (f v) ++ l) (pairs-of_rows f (v + 1) n)

-- the row of a number, and none past the end
row-within : (f : ℕ → List ℕ) (v n k : ℕ) → k < n → get_or (map f (numbers_from v n)) k [] ≡ f (v + k)
row-within f v zero k h = absurd (omega arith)
row-within f v (suc n) zero h = ap f (omega arith)
row-within f v (suc n) (suc k) h = row-within f (v + 1) n k (omega arith) ∙ ap f (omega arith)

row-past : (f : ℕ → List ℕ) (v n k : ℕ) → n ≤ k → get_or (map f (numbers_from v n)) k [] ≡ []
row-past f v zero k h = refl
row-past f v (suc n) zero h = absurd (omega arith)
row-past f v (suc n) (suc k) h = row-past f (v + 1) n k (omega arith)

lt-more : (x n : ℕ) → x ≢ n → nat_lt x (suc n) ≡ nat_lt x n
lt-more x n h = elim (cases_lt x n) [
  | inl l ↦ lt-ltb x (suc n) (omega arith) ∙ sym (lt-ltb x n l)
  | inr g ↦ le-ltb x (suc n) (omega arith) ∙ sym (le-ltb x n g)
]

-- a number more that passes, and one that does not
kept-one : (p : ℕ → Bool) (x n : ℕ) (rest : Bool) → p n ≡ true → rest ≡ (nat_lt x n && p x) → (nat_eq x n || rest) ≡ (nat_lt x (suc n) && p x)
kept-one p x n rest t e = elim (cases_Bool (nat_eq x n)) [
  | inl same ↦
      let is : x ≡ n = eqb-true x n same in
      ap (λ b. b || rest) same ∙ sym (λ i. lt-ltb x (suc n) (omega arith) i && (ap p is ∙ t) i)
  | inr other ↦ ap (λ b. b || rest) other ∙ e ∙ ap (λ b. b && p x) (sym (lt-more x n (eqb-false x n other)))
]

left-one : (p : ℕ → Bool) (x n : ℕ) (rest : Bool) → p n ≡ false → rest ≡ (nat_lt x n && p x) → rest ≡ (nat_lt x (suc n) && p x)
left-one p x n rest f e = elim (cases_Bool (nat_eq x n)) [
  | inl same ↦
      let is : x ≡ n = eqb-true x n same in
      e ∙ (λ i. le-ltb x n (omega arith) i && p x) ∙ sym (λ i. lt-ltb x (suc n) (omega arith) i && (ap p is ∙ f) i)
  | inr other ↦ e ∙ ap (λ b. b && p x) (sym (lt-more x n (eqb-false x n other)))
]

-- among the numbers below one, those that pass have a number where it is below and passes
kept-has : (p : ℕ → Bool) (x n : ℕ) → list_any (nat_eq x) (filter p (numbers_below n)) ≡ (nat_lt x n && p x)
kept-has p x zero = sym (ap (λ b. b && p x) (le-ltb x 0 (omega arith)))
kept-has p x (suc n) = elim (cases_Bool (p n)) [
  | inl t ↦ ap (list_any (nat_eq x)) (cond-true _ _ _ t) ∙ kept-one p x n _ t (kept-has p x n)
  | inr f ↦ ap (list_any (nat_eq x)) (cond-false _ _ _ f) ∙ left-one p x n _ f (kept-has p x n)
]

-- a test that fails, and one that is asked twice
nothing : (a lt b : Bool) → b ≡ false → (a && (lt && b)) ≡ false
nothing true true false e = refl
nothing true true true e = absurd (cc)
nothing true false b e = refl
nothing false lt b e = refl

twice : (a lt b : Bool) → (lt && (a && (lt && b))) ≡ (a && (lt && b))
twice true true b = refl
twice true false b = refl
twice false true b = refl
twice false false b = refl

none-conflicts : (flags : List Bool) (o : Option Access) → conflict_of flags o None ≡ false
none-conflicts flags None = refl
none-conflicts flags (Some x) = refl

get-past : {A : Type 0} (xs : List A) (k : ℕ) → length xs ≤ k → slice_get xs k ≡ None
get-past [] k h = refl
get-past (x ∷ xs) zero h = absurd (omega arith)
get-past (x ∷ xs) (suc k) h = get-past xs k (omega arith)

depends-past : (ssa : Ssa) (v x : ℕ) → arguments ssa + length ssa.units ≤ v → depends_on ssa v x ≡ false
depends-past ssa v x h =
    let none : unit_at ssa v ≡ None = cond-false _ _ _ (le-ltb v (arguments ssa) (omega arith)) ∙ get-past ssa.units (v - arguments ssa) (omega arith) in
    nothing (is_unit ssa x) (nat_lt x v) (uses_at ssa v x || conflict_at ssa x v)
    ((λ i. option_map_or (uses_value x) (none i) false || conflict_of (noalias_flags ssa) (access_at ssa x) (none i >>= access_of)) ∙ none-conflicts (noalias_flags ssa) (access_at ssa x))

pub lists-dependences : (ssa : Ssa) → ListsDependences (dependences ssa) ssa
lists-dependences ssa later earlier =
    let count = arguments ssa + length ssa.units in
    let rows = map (depended ssa) (numbers_from 0 count) in
    ap (λ deps. is_listed deps later earlier) (sym (pairs-of_rows (depended ssa) 0 count))
    ∙ ap (list_any (nat_eq earlier)) (row_of-rows rows later)
    ∙ elim (cases_lt later count) [
      | inl l ↦
          ap (list_any (nat_eq earlier)) (row-within (depended ssa) 0 count later l ∙ ap (depended ssa) (let e : 0 + later ≡ later = omega arith in e))
          ∙ kept-has (depends_on ssa later) earlier later
          ∙ twice (is_unit ssa earlier) (nat_lt earlier later) (uses_at ssa later earlier || conflict_at ssa earlier later)
      | inr g ↦ ap (list_any (nat_eq earlier)) (row-past (depended ssa) 0 count later g) ∙ sym (depends-past ssa later earlier g)
    ]
