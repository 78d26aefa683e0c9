-- The costs of the shuffles that can be had, one list after another, and what they tell of a recipe.
use Rattle.std.proofs.Common.{sym, ◌≡◌, ℕ, ◌+◌, ◌<◌, ◌≤◌, true, false, List, [], ◌∷◌, ◌++◌, length, refl, ◌∙◌, ap, arith, inl, inr, subst}
use Rattle.std.specs.Prelude.{min}
use Rattle.std.specs.List.{list_any}
use Rattle.std.proofs.lemmas.Bool.{cases_Bool}
use Rattle.std.proofs.lemmas.List.{append-nil}
use Rattle.vg_plans.specs.World.{can_shuffle, inserted, is_reused, least_shuffle, recipe_cost}
use Rattle.vg_shapes.specs.declared.operand.Operand.{Operand}
use Rattle.vg_shapes.specs.declared.pack.Pack.{Pack}
use Rattle.vg_shapes.specs.declared.ssa.Ssa.{Ssa}
use Rattle.vg_shapes.specs.Description.{Description}
use Rattle.vg_kernel_plans.specs.Packing.{packing}
use Rattle.vg_kernel_plans.specs.Shuffles.{shuffles}
use Rattle.vg_kernel_plans.specs.Wants.{is_constant, wanted_values}
use Rattle.vg_cost.specs.Had.{costs_had, least_of}

pub least_had : (ds : List Description) (ssa : Ssa) (plan : List Pack) (cost : ℕ) (ss : List (ℕ × List Operand))
    → least_of cost (costs_had ds ssa plan ss) ≡ least_shuffle (packing ds [] ssa []) plan cost ss
least_had ds ssa plan cost [] = refl
least_had ds ssa plan cost (s ∷ ss) = elim (cases_Bool (can_shuffle (packing ds [] ssa []) plan s)) [
  | inl t ↦ rw t (least_had ds ssa plan (min s.0 cost) ss)
  | inr f ↦ rw f (least_had ds ssa plan cost ss)
]

pub some_had : (ds : List Description) (ssa : Ssa) (plan : List Pack) (ss : List (ℕ × List Operand))
    → 0 < length (costs_had ds ssa plan ss) → list_any (can_shuffle (packing ds [] ssa []) plan) ss ≡ true
some_had ds ssa plan [] h = absurd (omega arith)
some_had ds ssa plan (s ∷ ss) h = elim (cases_Bool (can_shuffle (packing ds [] ssa []) plan s)) [
  | inl t ↦ rw t refl
  | inr f ↦ rw f (some_had ds ssa plan ss (rw f at h))
]

pub none_had : (ds : List Description) (ssa : Ssa) (plan : List Pack) (ss : List (ℕ × List Operand))
    → length (costs_had ds ssa plan ss) ≤ 0 → list_any (can_shuffle (packing ds [] ssa []) plan) ss ≡ false
none_had ds ssa plan [] h = refl
none_had ds ssa plan (s ∷ ss) h = elim (cases_Bool (can_shuffle (packing ds [] ssa []) plan s)) [
  | inl t ↦ let k = rw t at h in absurd (omega arith)
  | inr f ↦ rw f (none_had ds ssa plan ss (rw f at h))
]

module _ (ds : List Description) (ssa : Ssa) (plan : List Pack) (o : Operand)
    (free : is_reused (packing ds [] ssa []) plan o ≡ false) (some : is_constant o ≡ false) where
  -- the least of what inserts and the shuffles that can be had cost
  pub cost_had : (inserts : ℕ) (costs : List ℕ) → inserts ≡ 1 + length (wanted_values o)
      → costs ≡ costs_had ds ssa plan (shuffles ds o)
      → least_of inserts costs ≡ recipe_cost (packing ds [] ssa []) plan o
  cost_had inserts costs i e =
      rw (free, some) (ap (λ n. least_of n costs) i ∙ ap (least_of (1 + length (wanted_values o))) e
      ∙ least_had ds ssa plan (1 + length (wanted_values o)) (shuffles ds o))

  -- some shuffle can be had, so that nothing is inserted
  pub none_more : (costs values : List ℕ) → costs ≡ costs_had ds ssa plan (shuffles ds o) → 0 < length costs
      → values ≡ values ++ inserted (packing ds [] ssa []) plan o
  none_more costs values e h =
      let had = some_had ds ssa plan (shuffles ds o) (subst (λ l. 0 < length l) e h) in
      rw (free, some, had) (sym (append-nil values))

  -- none can, so that all wanted values are
  pub all_more : (costs : List ℕ) → costs ≡ costs_had ds ssa plan (shuffles ds o) → length costs ≤ 0
      → wanted_values o ≡ inserted (packing ds [] ssa []) plan o
  all_more costs e h =
      let had = none_had ds ssa plan (shuffles ds o) (subst (λ l. length l ≤ 0) e h) in
      rw (free, some, had) refl
