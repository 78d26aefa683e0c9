-- What a recipe is: the holder of an operand, its constants, a shuffle that can be had, or inserts.
use Rattle.std.proofs.Common.{◌≡◌, ℕ, suc, ◌+◌, ◌<◌, Bool, true, false, cond, List, [], ◌∷◌, length, refl, subst, inl, inr, arith}
use Rattle.std.specs.List.{AllByRecursion, list_any}
use Rattle.std.proofs.lemmas.Bool.{cases_Bool}
use Rattle.vg_shapes.specs.declared.operand.Operand.{Operand}
use Rattle.vg_shapes.specs.declared.pack.Pack.{Pack}
use Rattle.vg_shapes.specs.declared.ssa.Ssa.{Ssa}
use Rattle.vg_shapes.specs.Description.{Description}
use Rattle.vg_kernel_plans.specs.declared.recipe.Recipe.{Recipe}
use Rattle.vg_kernel_plans.specs.declared.recipe.Recipe.TheVariants as recipe
use Rattle.vg_kernel_plans.specs.Held.{holds}
use Rattle.vg_kernel_plans.specs.Shuffles.{shuffle_of}
use Rattle.vg_kernel_plans.specs.Wants.{is_constant}
use Rattle.vg_emission.specs.Emission.{constant_bytes}
use Rattle.vg_gather.specs.Recipes.{can_be_had, description_in, holder, packs_of, ready_from, recipe_of, shuffled}
use Rattle.vg_gather.proofs.Prices.{can_make, made, ready-all, there-all}
use Rattle.vg_gather.proofs.Takes.{least-has}

module _ (ds : List Description) (ssa : Ssa) (plan : List Pack) (o : Operand) where
  -- the number of a description that is a shuffle which can make the operand
  pub record IsReady (n : ℕ) : Type 0 where
    pub low : n < length ds
    pub can : can_make o (description_in ds n) ≡ true
    pub had : can_be_had ds ssa plan (made o (description_in ds n)) ≡ true

  ready-low : (d limit : ℕ) (es : List Description) → d + length es ≡ limit
      → AllByRecursion (λ n. n < limit) (ready_from ds ssa plan o d es)
  ready-low d limit [] e = tt
  ready-low d limit (x ∷ es) e =
      let rest = ready-low (suc d) limit es (omega arith) in
      elim (cases_Bool (list_any (can_be_had ds ssa plan) (shuffle_of o x))) [
        | inl t ↦ rw t (omega arith, rest)
        | inr f ↦ rw f rest
      ]

  both : (P Q R : ℕ → Type 0) → ((n : ℕ) → P n → Q n → R n) → (ns : List ℕ) → AllByRecursion P ns
      → AllByRecursion Q ns → AllByRecursion R ns
  both P Q R f [] p q = tt
  both P Q R f (n ∷ ns) p q = (f n p.0 q.0, both P Q R f ns p.1 q.1)

  abbrev Had : ℕ → Type 0
  Had n =
      (can_make o (description_in ds n) ≡ true) ×
      (can_be_had ds ssa plan (made o (description_in ds n)) ≡ true)

  ready-are : AllByRecursion IsReady (ready_from ds ssa plan o 0 ds)
  ready-are =
      both (λ n. n < length ds) Had IsReady (λ n p q. record { low = p; can = q.0; had = q.1 })
      (ready_from ds ssa plan o 0 ds)
      (ready-low 0 (length ds) ds (omega arith))
      (ready-all ds ssa plan o Had 0 ds (there-all ds)
      (λ n e is can had. (
        subst (λ x. can_make o x
            ≡ true) is can,
        subst (λ x. can_be_had ds ssa plan (made o x) ≡ true) is had,
      )))

  shuffled-is : (P : Recipe → Type 0) (numbers : List ℕ) → AllByRecursion IsReady numbers
      → ((n : ℕ) → IsReady n → P (recipe.Shuffle n (packs_of ds ssa plan o (description_in ds n))))
      → P recipe.Inserts → P (shuffled ds ssa plan o numbers)
  shuffled-is P [] all shuffles inserts = inserts
  shuffled-is P (n ∷ numbers) all shuffles inserts =
      shuffles _ (least-has IsReady (λ k. (description_in ds k).cost) n numbers all.0 all.1)

  three : (P : Recipe → Type 0) (b c : Bool) (r s t : Recipe) → (b ≡ true → P r) → (c ≡ true → P s)
      → (c ≡ false → P t) → P (cond b r (cond c s t))
  three P true c r s t h k l = h refl
  three P false true r s t h k l = k refl
  three P false false r s t h k l = l refl

  -- what holds of each of the four holds of the recipe
  pub recipe-is : (P : Recipe → Type 0)
      → (list_any (λ p. holds ds ssa p o) plan ≡ true → P (recipe.Reuse (holder ds ssa plan o)))
      → (is_constant o ≡ true → P (recipe.Constant (constant_bytes o)))
      → (is_constant o ≡ false → (n : ℕ) → IsReady n
      → P (recipe.Shuffle n (packs_of ds ssa plan o (description_in ds n))))
      → P recipe.Inserts → P (recipe_of ds ssa plan o)
  recipe-is P reuse constants shuffles inserts =
      three P (list_any (λ p. holds ds ssa p o) plan) (is_constant o) _ _ _ reuse constants
      (λ varies. shuffled-is P (ready_from ds ssa plan o 0 ds) ready-are (shuffles varies) inserts)
