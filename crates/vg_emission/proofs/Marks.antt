-- What is needed as scalars: what inserts put into registers, and what units use that are emitted as scalars.
use Rattle.std.proofs.Common.{◌≡◌, ℕ, zero, suc, ◌+◌, ◌<◌, ◌≤◌, true, false, List, [], ◌∷◌, ◌++◌, length, Option, Some, None, refl, sym, ap, subst, ◌∙◌, ◌⊎◌, inl, inr, arith}
use Rattle.std.specs.Prelude.{filter, filter_map, nat_eq, not, slice_index_or, ◌==◌}
use Rattle.std.specs.List.{AllByRecursion, cons_option, list_any}
use Rattle.std.specs.Option.{is_some}
use Rattle.std.proofs.lemmas.Bool.{and_from, cases_Bool, cases_lt, cond-false, cond-true, eqb-true, eqb-false, or_left, or_right}
use Rattle.vg_plans.specs.World.{is_in}
use Rattle.vg_shapes.specs.declared.operand.Operand.{Operand}
use Rattle.vg_shapes.specs.declared.pack.Pack.{Pack}
use Rattle.vg_shapes.specs.declared.ssa.Ssa.{Ssa}
use Rattle.vg_shapes.specs.declared.ssa_unit.SsaUnit.{SsaUnit}
use Rattle.vg_shapes.specs.declared.ssa_unit.SsaUnit.TheVariants.{Load, Store, Operation}
use Rattle.vg_shapes.specs.declared.wanted.Wanted.{Wanted}
use Rattle.vg_shapes.specs.declared.wanted.Wanted.TheVariants.{Value, Constant, Nothing}
use Rattle.vg_shapes.specs.Depends.{numbers_below}
use Rattle.vg_shapes.specs.Layout.{access_at}
use Rattle.vg_shapes.specs.Nodes.{is_packed}
use Rattle.vg_shapes.specs.Order.{count_of, one_if, Stands as In}
use Rattle.vg_shapes.specs.Sound.{IsEarlier, TakeEarlier}
use Rattle.vg_shapes.specs.Units.{arguments, is_unit, unit_at}
use Rattle.vg_kernel_plans.specs.declared.recipe.Recipe.{Recipe}
use Rattle.vg_kernel_plans.specs.declared.recipe.Recipe.TheVariants as recipe
use Rattle.vg_kernel_plans.specs.Packing.{used_by}
use Rattle.vg_kernel_plans.specs.Wants.{value_of, wanted_values}
use Rattle.vg_order_laws.proofs.Sequences.{count_of-append}
use Rattle.vg_emission.specs.Program.{all_inserted, inserted_by, is_scalar, needed_behind}
use Rattle.vg_emission.proofs.Jobs.{stands-found}
use Rattle.vg_emission.proofs.Uses.{takes-earlier}

pub stands-in : (x : ℕ) (ys : List ℕ) → In x ys → is_in x ys ≡ true
stands-in x ys h = elim (cases_Bool (list_any (nat_eq x) ys)) [
  | inl t ↦ t
  | inr f ↦ absurd (let none = stands-found x ys f in omega arith)
]

pub in-before : (x : ℕ) (xs ys : List ℕ) → In x xs → In x (xs ++ ys)
in-before x xs ys h = let split = count_of-append x xs ys in omega arith

pub in-after : (x : ℕ) (xs ys : List ℕ) → In x ys → In x (xs ++ ys)
in-after x xs ys h = let split = count_of-append x xs ys in omega arith

-- what an insert puts into a register is needed from the start
pub inserted-in : (rs : List Recipe) (os : List Operand) (o x : ℕ) (d : Operand) → o < length os → slice_index_or rs o (recipe.Constant []) ≡ recipe.Inserts → In x (wanted_values (slice_index_or os o d)) → In x (all_inserted rs os)
inserted-in [] os o x d low e h = cc
inserted-in (r ∷ rs) [] o x d low e h = absurd (omega arith)
inserted-in (r ∷ rs) (q ∷ os) zero x d low e h = in-before x (inserted_by r q) (all_inserted rs os) (subst (λ w. In x (inserted_by w q)) (sym e) h)
inserted-in (r ∷ rs) (q ∷ os) (suc o) x d low e h = in-after x (inserted_by r q) (all_inserted rs os) (inserted-in rs os o x d (omega arith) e h)

-- what is needed stays needed
pub needed-keeps : (ssa : Ssa) (packs : List Pack) (needed vs : List ℕ) (x : ℕ) → In x needed → In x (needed_behind ssa packs needed vs)
needed-keeps ssa packs needed [] x h = h
needed-keeps ssa packs needed (v ∷ vs) x h =
    let Goal : List ℕ → Type 0 = λ l. In x (needed_behind ssa packs l vs) in
    elim (cases_Bool (is_scalar ssa packs needed v)) [
      | inl t ↦ subst Goal (sym (cond-true _ _ needed t)) (needed-keeps ssa packs (used_by (unit_at ssa v) ++ needed) vs x (in-after x (used_by (unit_at ssa v)) needed h))
      | inr f ↦ subst Goal (sym (cond-false _ (used_by (unit_at ssa v) ++ needed) _ f)) (needed-keeps ssa packs needed vs x h)
    ]

-- a unit uses lesser values
values-low : (n : ℕ) (ys : List Wanted) (x : ℕ) → AllByRecursion (IsEarlier n) ys → In x (filter_map value_of ys) → x < n
values-low n [] x early h = absurd (omega arith)
values-low n (y ∷ ys) x early h = by y early.0 (values-low n ys x early.1) h
  where
    by : (w : Wanted) → IsEarlier n w → (In x (filter_map value_of ys) → x < n) → In x (cons_option (value_of w) (filter_map value_of ys)) → x < n
    by (Constant w k) low rest g = rest g
    by Nothing low rest g = rest g
    by (Value v) low rest g = elim (cases_Bool (x == v)) [
      | inl t ↦ (let same = eqb-true x v t in omega arith)
      | inr f ↦ rest (let none : one_if (x == v) ≡ 0 = ap one_if f in omega arith)
    ]

used-low : (ssa : Ssa) (v x : ℕ) → TakeEarlier (arguments ssa) ssa.units → In x (used_by (unit_at ssa v)) → x < v
used-low ssa v x early h = by (unit_at ssa v) refl h
  where
    by : (o : Option SsaUnit) → unit_at ssa v ≡ o → In x (used_by o) → x < v
    by None e g = absurd (omega arith)
    by (Some (Load a w)) e g = absurd (omega arith)
    by (Some (Store a w y)) e g = values-low v (y ∷ []) x (takes-earlier ssa v (Store a w y) early e, tt) g
    by (Some (Operation op w k ys)) e g =
        let low = takes-earlier ssa v (Operation op w k ys) early e in
        values-low v (ys.first ∷ (ys.second ∷ (ys.third ∷ []))) x (low.0, (low.1, (low.2, tt))) g

-- the units below a number, by falling number
abbrev pub units_below : Ssa → ℕ → List ℕ
units_below ssa n = filter (is_unit ssa) (numbers_below n)

-- lesser units make no greater value needed
pub needed-later : (ssa : Ssa) (packs : List Pack) (n : ℕ) (needed : List ℕ) (v : ℕ) → TakeEarlier (arguments ssa) ssa.units → n ≤ v + 1 → In v (needed_behind ssa packs needed (units_below ssa n)) → In v needed
needed-later ssa packs zero needed v early low h = h
needed-later ssa packs (suc m) needed v early low h =
    let kept = units_below ssa m in
    let own = used_by (unit_at ssa m) in
    let Goal : List ℕ → Type 0 = λ l. In v (needed_behind ssa packs needed l) → In v needed in
    let step : In v (needed_behind ssa packs needed (m ∷ kept)) → In v needed = λ g.
    elim (cases_Bool (is_scalar ssa packs needed m)) [
      | inl t ↦
          let after : In v (own ++ needed) = needed-later ssa packs m (own ++ needed) v early (omega arith) (subst (λ l. In v (needed_behind ssa packs l kept)) (cond-true _ (own ++ needed) needed t) g) in
          elim (cases_lt 0 (count_of v own)) [
            | inl u ↦ absurd (let less = used-low ssa m v early u in omega arith)
            | inr z ↦ (let split = count_of-append v own needed in omega arith)
          ]
      | inr f ↦ needed-later ssa packs m needed v early (omega arith) (subst (λ l. In v (needed_behind ssa packs l kept)) (cond-false _ (own ++ needed) needed f) g)
    ] in
    elim (cases_Bool (is_unit ssa m)) [
      | inr f ↦ needed-later ssa packs m needed v early (omega arith) (subst (λ l. In v (needed_behind ssa packs needed l)) (cond-false (is_unit ssa m) (m ∷ kept) kept f) h)
      | inl t ↦ step (subst (λ l. In v (needed_behind ssa packs needed l)) (cond-true (is_unit ssa m) (m ∷ kept) kept t) h)
    ]

scalar-from : (ssa : Ssa) (packs : List Pack) (needed : List ℕ) (v : ℕ) → is_packed packs v ≡ false → (is_some (access_at ssa v) ≡ true) ⊎ In v needed → is_scalar ssa packs needed v ≡ true
scalar-from ssa packs needed v outside (inl a) = and_from (not (is_packed packs v)) _ (ap not outside) (or_left (is_some (access_at ssa v)) _ a)
scalar-from ssa packs needed v outside (inr n) = and_from (not (is_packed packs v)) _ (ap not outside) (or_right (is_some (access_at ssa v)) _ (stands-in v needed n))

-- what a unit uses that is emitted as a scalar is needed
pub used-needed : (ssa : Ssa) (packs : List Pack) (n : ℕ) (needed : List ℕ) (v x : ℕ) → TakeEarlier (arguments ssa) ssa.units → v < n → is_unit ssa v ≡ true → is_packed packs v ≡ false
    → (is_some (access_at ssa v) ≡ true) ⊎ In v (needed_behind ssa packs needed (units_below ssa n)) → In x (used_by (unit_at ssa v)) → In x (needed_behind ssa packs needed (units_below ssa n))
used-needed ssa packs zero needed v x early low unit outside emitted used = absurd (omega arith)
used-needed ssa packs (suc m) needed v x early low unit outside emitted used =
    let kept = units_below ssa m in
    let own = used_by (unit_at ssa m) in
    let Claim : List ℕ → Type 0 = λ l. (is_some (access_at ssa v) ≡ true) ⊎ In v (needed_behind ssa packs needed l) → In x (needed_behind ssa packs needed l) in
    let Behind : List ℕ → Type 0 = λ l. (is_some (access_at ssa v) ≡ true) ⊎ In v (needed_behind ssa packs l kept) → In x (needed_behind ssa packs l kept) in
    elim (cases_Bool (m == v)) [
      | inl t ↦
          let same = eqb-true m v t in
          let here : is_unit ssa m ≡ true = ap (is_unit ssa) same ∙ unit in
          let mine : In x own = subst (λ k. In x (used_by (unit_at ssa k))) (sym same) used in
          let first : Claim (m ∷ kept) = λ e.
          let now : (is_some (access_at ssa v) ≡ true) ⊎ In v needed = elim e [
            | inl a ↦ inl a
            | inr g ↦ inr (needed-later ssa packs (suc m) needed v early (omega arith) (subst (λ l. In v (needed_behind ssa packs needed l)) (sym (cond-true (is_unit ssa m) (m ∷ kept) kept here)) g))
          ] in
          let scalar : is_scalar ssa packs needed m ≡ true = ap (is_scalar ssa packs needed) same ∙ scalar-from ssa packs needed v outside now in
          subst (λ l. In x (needed_behind ssa packs l kept)) (sym (cond-true _ (own ++ needed) needed scalar)) (needed-keeps ssa packs (own ++ needed) kept x (in-before x own needed mine)) in
          subst Claim (sym (cond-true (is_unit ssa m) (m ∷ kept) kept here)) first emitted
      | inr f ↦
          let other = eqb-false m v f in
          let below : v < m = omega arith in
          elim (cases_Bool (is_unit ssa m)) [
            | inr g ↦ subst Claim (sym (cond-false (is_unit ssa m) (m ∷ kept) kept g)) (λ e. used-needed ssa packs m needed v x early below unit outside e used) emitted
            | inl g ↦ subst Claim (sym (cond-true (is_unit ssa m) (m ∷ kept) kept g))
                (elim (cases_Bool (is_scalar ssa packs needed m)) [
                  | inl s ↦ subst Behind (sym (cond-true _ (own ++ needed) needed s)) (λ e. used-needed ssa packs m (own ++ needed) v x early below unit outside e used)
                  | inr s ↦ subst Behind (sym (cond-false _ (own ++ needed) needed s)) (λ e. used-needed ssa packs m needed v x early below unit outside e used)
                ]) emitted
          ]
    ]
