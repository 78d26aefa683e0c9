-- What is known of recipes, by the shuffles that can be had.
use Rattle.std.proofs.Common.{◌≡◌, ℕ, suc, ◌+◌, ◌<◌, ◌≤◌, Bool, true, false, List, [], ◌∷◌, length, refl, sym, ◌∙◌, ap, arith, inl, inr}
use Rattle.std.specs.Prelude.{◌&&◌, filter, nat_eq, nat_lt, not}
use Rattle.std.specs.List.{filter_map, list_all, list_any}
use Rattle.std.proofs.lemmas.Bool.{cases_Bool}
use Rattle.std.proofs.lemmas.Bool.Decides.{nat_tests}
use Rattle.vg_plans.specs.World.{inserted, is_reused, recipe_cost}
use Rattle.vg_shapes.specs.declared.operand.Operand.{Operand}
use Rattle.vg_shapes.specs.declared.operand.Slot.{Slot}
use Rattle.vg_shapes.specs.declared.pack.Pack.{Pack}
use Rattle.vg_shapes.specs.declared.ssa.Ssa.{Ssa}
use Rattle.vg_shapes.specs.declared.wanted.Wanted.{Wanted}
use Rattle.vg_shapes.specs.declared.wanted.Wanted.TheVariants.{Value, Constant, Nothing}
use Rattle.vg_shapes.specs.Description.{Description}
use Rattle.vg_kernel_plans.specs.Packing.{packing}
use Rattle.vg_kernel_plans.specs.Shuffles.{shuffles}
use Rattle.vg_kernel_plans.specs.Wants.{is_constant, value_of, wanted_values, wants_value}
use Rattle.vg_cost.specs.declared.recipe_cost.RecipeCost.{RecipeCost}
use Rattle.vg_cost.specs.Had.{costs_had, least_of}
use Rattle.vg_cost.specs.Places.{are_met, is_met}
use Rattle.vg_cost.specs.Shuffling.{is_tight}
use Rattle.vg_cost.specs.Taken.{inserts_for, recipe_for}
use Rattle.vg_cost.proofs.Had.{all_more, cost_had, none_more}
use Rattle.vg_cost.proofs.Stood.{none-met, not-reused}

abbrev of_two : ℕ → Bool → RecipeCost
of_two lines flag = record { lines = lines; is_inserted = flag }

same-cost : {a b : ℕ} {c d : Bool} → a ≡ b → c ≡ d → of_two a c ≡ of_two b d
same-cost {a} {b} {c} {d} p q = ap (λ x. of_two x c) p ∙ ap (λ y. of_two b y) q

and-true : (b : Bool) → (b && true) ≡ b
and-true true = refl
and-true false = refl

and-false : (b : Bool) → (b && false) ≡ false
and-false true = refl
and-false false = refl

module _ (ds : List Description) (ssa : Ssa) (plan : List Pack) (o : Operand)
    (free : is_reused (packing ds [] ssa []) plan o ≡ false) (some : is_constant o ≡ false)
    (costs : List ℕ) (e : costs ≡ costs_had ds ssa plan (shuffles ds o)) where
  inserts-them : (nat_lt 0 (length (wanted_values o)) && nat_eq (length costs) 0)
      ≡ nat_lt 0 (length (inserted (packing ds [] ssa []) plan o))
  inserts-them = elim (cases_Bool (nat_eq (length costs) 0)) [
    | inl t ↦
        let none : length costs ≤ 0 = grind (arith, nat_tests, t) in
        ap (λ b. nat_lt 0 (length (wanted_values o)) && b) t ∙ and-true (nat_lt 0 (length (wanted_values o)))
        ∙ ap (λ l. nat_lt 0 (length l)) (all_more ds ssa plan o free some costs e none)
    | inr f ↦
        let any : 0 < length costs = grind (arith, nat_tests, f) in
        ap (λ b. nat_lt 0 (length (wanted_values o)) && b) f ∙ and-false (nat_lt 0 (length (wanted_values o)))
        ∙ ap (λ l. nat_lt 0 (length l)) (none_more ds ssa plan o free some costs [] e any)
  ]

  pub made : (inserts lines values : ℕ) (flag : Bool) → inserts ≡ 1 + length (wanted_values o)
      → values ≡ length (wanted_values o) → lines ≡ least_of inserts costs
      → flag ≡ (nat_lt 0 values && nat_eq (length costs) 0)
      → of_two lines flag ≡ recipe_for ds ssa plan o
  made inserts lines values flag i v l f =
      let cost : lines ≡ recipe_cost (packing ds [] ssa []) plan o = l ∙ cost_had ds ssa plan o free some inserts costs i e in
      let there : flag ≡ nat_lt 0 (length (inserted (packing ds [] ssa []) plan o)) =
      f ∙ ap (λ n. nat_lt 0 n && nat_eq (length costs) 0) v ∙ inserts-them
      in
      same-cost cost there

-- an operand wants as many values as it has slots that want one
counted : (ss : List Slot) → length (filter (λ s. wants_value s.wanted) ss) ≡ length (filter_map (λ s. value_of s.wanted) ss)
counted [] = refl
counted (s ∷ ss) = by-wanted s.wanted refl (counted ss) where
  by-wanted : (x : Wanted) → s.wanted ≡ x
      → length (filter (λ s. wants_value s.wanted) ss) ≡ length (filter_map (λ s. value_of s.wanted) ss)
      → length (filter (λ s. wants_value s.wanted) (s ∷ ss)) ≡ length (filter_map (λ s. value_of s.wanted) (s ∷ ss))
  by-wanted (Value v) e h = rw e (ap (λ n. suc n) h)
  by-wanted (Constant w n) e h = rw e h
  by-wanted Nothing e h = rw e h

-- a value that is in no pack is one
some-value : (plan : List Pack) (ss : List Slot) → list_all (λ s. is_met plan s.wanted) ss ≡ false
    → list_any (λ s. wants_value s.wanted) ss ≡ true
some-value plan [] f = absurd (cc)
some-value plan (s ∷ ss) f = by-wanted s.wanted refl (some-value plan ss) where
  by-wanted : (x : Wanted) → s.wanted ≡ x
      → (list_all (λ s. is_met plan s.wanted) ss ≡ false → list_any (λ s. wants_value s.wanted) ss ≡ true)
      → list_any (λ s. wants_value s.wanted) (s ∷ ss) ≡ true
  by-wanted (Value v) e h = rw e refl
  by-wanted (Constant w n) e h = rw e (h (rw e at f))
  by-wanted Nothing e h = rw e (h (rw e at f))

-- inserts are all there is for an operand of which a value is in no pack
pub unmet_is : (ds : List Description) (ssa : Ssa) (plan : List Pack) (o : Operand) → are_met plan o ≡ false
    → list_all is_tight ds ≡ true → inserts_for o ≡ recipe_for ds ssa plan o
unmet_is ds ssa plan o f tight =
    let free = not-reused ds ssa plan o f in
    let some : is_constant o ≡ false = ap not (some-value plan o.slots f) in
    let none : [] ≡ costs_had ds ssa plan (shuffles ds o) = sym (none-met ds ssa plan o f ds tight) in
    let count = counted o.slots in
    made ds ssa plan o free some [] none (1 + length (wanted_values o))
    (1 + length (filter (λ s. wants_value s.wanted) o.slots)) (length (filter (λ s. wants_value s.wanted) o.slots))
    (nat_lt 0 (length (filter (λ s. wants_value s.wanted) o.slots)))
    refl count (ap (λ n. 1 + n) count) (sym (and-true _))
