-- What is marked, where numbers are marked one after the other.
use Rattle.std.proofs.Common.{◌≡◌, ℕ, zero, suc, ◌+◌, ◌<◌, ◌≤◌, Bool, true, false, List, [], ◌∷◌, ◌++◌, length, drop, get_or, refl, sym, ap, subst, subst₂, ◌∙◌, arith, inl, inr}
use Rattle.std.specs.Prelude.{◌&&◌, ◌||◌, ◌⊎◌, not, nat_eq, min, replicate, slice_set, if◌then◌else◌, filter, flat_map, None, Some, Option}
use Rattle.std.specs.Option.{is_some}
use Rattle.std.proofs.lemmas.Bool.{cases_Bool, cases_lt, cond-true, cond-false, eqb-true, eqb-false, false≢true}
use Rattle.std.proofs.lemmas.List.{drop_all, length-set, get_or-set_same, get_or-set_other, get_or-replicate, length-replicate}
use Rattle.vg_plans.specs.World.{is_in}
use Rattle.vg_shapes.specs.declared.operand.Operand.{Operand}
use Rattle.vg_shapes.specs.declared.pack.Pack.{Pack}
use Rattle.vg_shapes.specs.declared.ssa.Ssa.{Ssa}
use Rattle.vg_shapes.specs.declared.ssa_unit.SsaUnit.{SsaUnit}
use Rattle.vg_shapes.specs.Depends.{numbers_below}
use Rattle.vg_shapes.specs.Layout.{access_at}
use Rattle.vg_shapes.specs.Nodes.{packed}
use Rattle.vg_shapes.specs.Pack.{units_of}
use Rattle.vg_shapes.specs.Units.{arguments, is_unit, unit_at}
use Rattle.vg_kernel_plans.specs.declared.recipe.Recipe.{Recipe}
use Rattle.vg_kernel_plans.specs.Packing.{falling_units, used_by}
use Rattle.vg_emission.specs.Program.{all_inserted, inserted_by, is_scalar, needed_behind}
use Rattle.vg_emit.specs.Marks.{is_marked, is_marked_scalar, Mark, marked, with_uses, with_uses_below}
use Rattle.vg_emit.proofs.Drops.{flat_map-next, next-is}

pub marked-append : (marks : List Bool) (xs ys : List ℕ) → marked marks (xs ++ ys) ≡ marked (marked marks xs) ys
marked-append marks [] ys = refl
marked-append marks (x ∷ xs) ys = marked-append (slice_set marks x true) xs ys

-- the marks of one pack more
pub marked-packs : (marks new : List Bool) (packs : List Pack) (k : ℕ) (p : Pack) → k < length packs → p ≡ get_or packs k p → new ≡ marked marks (units_of p)
    → marked new (flat_map units_of (drop (k + 1) packs)) ≡ marked marks (flat_map units_of (drop k packs))
marked-packs marks new packs k p inside is e =
    ap (λ m. marked m (flat_map units_of (drop (k + 1) packs))) e
    ∙ sym (marked-append marks (units_of p) (flat_map units_of (drop (k + 1) packs)))
    ∙ ap (marked marks) (sym (flat_map-next units_of packs k p inside is))

pub length-marked : (marks : List Bool) (vs : List ℕ) → length (marked marks vs) ≡ length marks
length-marked marks [] = refl
length-marked marks (v ∷ vs) = length-marked (slice_set marks v true) vs ∙ length-set marks v true

one-mark : (marks : List Bool) (x v : ℕ) → v < length marks → is_marked (slice_set marks x true) v ≡ (nat_eq v x || is_marked marks v)
one-mark marks x v inside = elim (cases_Bool (nat_eq v x)) [
  | inl t ↦
      let e = eqb-true v x t in
      let same : is_marked (slice_set marks x true) v ≡ true = subst (λ y. is_marked (slice_set marks y true) v ≡ true) e (get_or-set_same marks v true false inside) in
      same ∙ sym (ap (λ b. b || is_marked marks v) t)
  | inr f ↦ get_or-set_other marks x v true false (eqb-false v x f) ∙ sym (ap (λ b. b || is_marked marks v) f)
]

turn : (a b c : Bool) → (a || (b || c)) ≡ ((b || a) || c)
turn true true c = refl
turn true false c = refl
turn false true c = refl
turn false false c = refl

pub marked-at : (marks : List Bool) (vs : List ℕ) (v : ℕ) → v < length marks → is_marked (marked marks vs) v ≡ (is_in v vs || is_marked marks v)
marked-at marks [] v inside = refl
marked-at marks (x ∷ xs) v inside =
    marked-at (slice_set marks x true) xs v (subst (λ n. v < n) (sym (length-set marks x true)) inside)
    ∙ ap (λ b. is_in v xs || b) (one-mark marks x v inside)
    ∙ turn (is_in v xs) (nat_eq v x) (is_marked marks v)

in-append : (v : ℕ) (xs ys : List ℕ) → is_in v (xs ++ ys) ≡ (is_in v xs || is_in v ys)
in-append v [] ys = refl
in-append v (x ∷ xs) ys = ap (λ b. nat_eq v x || b) (in-append v xs ys) ∙ join (nat_eq v x) (is_in v xs) (is_in v ys)
  where
    join : (a b c : Bool) → (a || (b || c)) ≡ ((a || b) || c)
    join true b c = refl
    join false b c = refl

pub no-marks : (n : ℕ) → Mark n (replicate n false) []
no-marks n = record { long = length-replicate n false; at = λ v inside. get_or-replicate n v false false inside }

pub more-marks : (n : ℕ) (marks : List Bool) (old more : List ℕ) → Mark n marks old → Mark n (marked marks more) (more ++ old)
more-marks n marks old more m = record {
  long = length-marked marks more ∙ m.long;
  at = λ v inside.
      marked-at marks more v (subst (λ k. v < k) (sym m.long) inside)
      ∙ ap (λ b. is_in v more || b) (m.at v inside)
      ∙ sym (in-append v more old);
}

pub all-marks : (n : ℕ) (more : List ℕ) → Mark n (marked (replicate n false) more) more
all-marks n more = record {
  long = length-marked (replicate n false) more ∙ length-replicate n false;
  at = λ v inside.
      marked-at (replicate n false) more v (subst (λ k. v < k) (sym (length-replicate n false)) inside)
      ∙ ap (λ b. is_in v more || b) (get_or-replicate n v false false inside)
      ∙ or-none (is_in v more);
}
  where
    or-none : (a : Bool) → (a || false) ≡ a
    or-none true = refl
    or-none false = refl

-- marks stand for numbers where these do
uses-same : (ssa : Ssa) (packs : List Pack) (n : ℕ) (in_packs marks : List Bool) (needed : List ℕ) (v : ℕ) → v < n → Mark n in_packs (packed packs) → Mark n marks needed
    → Mark n (with_uses ssa in_packs marks v) (if is_scalar ssa packs needed v then used_by (unit_at ssa v) ++ needed else needed)
uses-same ssa packs n in_packs marks needed v inside p m =
    let same : is_marked_scalar ssa in_packs marks v ≡ is_scalar ssa packs needed v =
    λ i. not (p.at v inside i) && (is_some (access_at ssa v) || m.at v inside i)
    in
    elim (cases_Bool (is_scalar ssa packs needed v)) [
      | inl t ↦
          subst₂ (λ a b. Mark n a b)
          (sym (cond-true _ _ _ (same ∙ t))) (sym (cond-true _ _ _ t))
          (more-marks n marks needed (used_by (unit_at ssa v)) m)
      | inr f ↦
          subst₂ (λ a b. Mark n a b)
          (sym (cond-false _ _ _ (same ∙ f))) (sym (cond-false _ _ _ f)) m
    ]

-- a number that is no unit's uses nothing
no-uses : (ssa : Ssa) (in_packs marks : List Bool) (v : ℕ) → is_unit ssa v ≡ false → with_uses ssa in_packs marks v ≡ marks
no-uses ssa in_packs marks v h = by (unit_at ssa v) refl
  where
    by : (u : Option SsaUnit) → unit_at ssa v ≡ u → with_uses ssa in_packs marks v ≡ marks
    by None e = elim (cases_Bool (is_marked_scalar ssa in_packs marks v)) [
      | inl t ↦ cond-true _ _ _ t ∙ ap (λ w. marked marks (used_by w)) e
      | inr f ↦ cond-false _ _ _ f
    ]
    by (Some u) e = absurd (false≢true (sym h ∙ ap is_some e))

below-same : (ssa : Ssa) (packs : List Pack) (n : ℕ) (in_packs marks : List Bool) (needed : List ℕ) (k : ℕ) → k ≤ n → Mark n in_packs (packed packs) → Mark n marks needed
    → Mark n (with_uses_below ssa in_packs marks k) (needed_behind ssa packs needed (filter (is_unit ssa) (numbers_below k)))
below-same ssa packs n in_packs marks needed zero h p m = m
below-same ssa packs n in_packs marks needed (suc k) h p m = elim (cases_Bool (is_unit ssa k)) [
  | inl t ↦
      subst (λ vs. Mark n (with_uses_below ssa in_packs marks (suc k)) (needed_behind ssa packs needed vs))
      (sym (cond-true _ _ _ t))
      (below-same ssa packs n in_packs (with_uses ssa in_packs marks k) _ k (omega arith) p
      (uses-same ssa packs n in_packs marks needed k (omega arith) p m))
  | inr f ↦
      subst₂ (λ a vs. Mark n (with_uses_below ssa in_packs a k) (needed_behind ssa packs needed vs))
      (sym (no-uses ssa in_packs marks k f)) (sym (cond-false _ _ _ f))
      (below-same ssa packs n in_packs marks needed k (omega arith) p m)
]

-- what is marked at the end is what is needed
pub needed-marks : (ssa : Ssa) (packs : List Pack) (n : ℕ) (wanted : List ℕ) → n ≡ arguments ssa + length ssa.units
    → Mark n
    (with_uses_below ssa (marked (replicate n false) (packed packs)) (marked (replicate n false) wanted) n)
    (needed_behind ssa packs wanted (falling_units ssa))
needed-marks ssa packs n wanted e =
    subst (λ k. Mark n (with_uses_below ssa (marked (replicate n false) (packed packs)) (marked (replicate n false) wanted) n) (needed_behind ssa packs wanted (filter (is_unit ssa) (numbers_below k)))) e
    (below-same ssa packs n _ _ wanted n (omega arith) (all-marks n (packed packs)) (all-marks n wanted))

-- ---- what recipes put into registers

pub inserted-next : (marks new : List Bool) (rs : List Recipe) (os : List Operand) (k : ℕ) (r : Recipe) (o : Operand) → k < length rs → k < length os → r ≡ get_or rs k r → o ≡ get_or os k o
    → new ≡ marked marks (inserted_by r o)
    → marked new (all_inserted (drop (k + 1) rs) (drop (k + 1) os)) ≡ marked marks (all_inserted (drop k rs) (drop k os))
inserted-next marks new rs os k r o a b c d e =
    ap (λ m. marked m (all_inserted (drop (k + 1) rs) (drop (k + 1) os))) e
    ∙ sym (marked-append marks (inserted_by r o) (all_inserted (drop (k + 1) rs) (drop (k + 1) os)))
    ∙ sym (λ i. marked marks (all_inserted (next-is rs k r a c i) (next-is os k o b d i)))

none-inserted : (rs : List Recipe) (os : List Operand) → (length rs ≡ 0) ⊎ (length os ≡ 0) → all_inserted rs os ≡ []
none-inserted [] os h = refl
none-inserted (r ∷ rs) [] h = refl
none-inserted (r ∷ rs) (o ∷ os) (inl h) = absurd (omega arith)
none-inserted (r ∷ rs) (o ∷ os) (inr h) = absurd (omega arith)

pub inserted-end : (rs : List Recipe) (os : List Operand) (k : ℕ) → min (length rs) (length os) ≤ k → all_inserted (drop k rs) (drop k os) ≡ []
inserted-end rs os k h = elim (cases_lt k (length rs)) [
  | inl a ↦ none-inserted (drop k rs) (drop k os) (inr (ap length (drop_all k os (omega arith))))
  | inr a ↦ none-inserted (drop k rs) (drop k os) (inl (ap length (drop_all k rs a)))
]
