-- What recipes cost and insert is what the plan counts.
use Rattle.std.proofs.Common.{◌≡◌, ℕ, suc, ◌+◌, ◌<◌, ◌≤◌, Bool, true, false, List, [], ◌∷◌, ◌++◌, length, refl, sym, ap, ◌∙◌, inl, inr, arith}
use Rattle.std.specs.Prelude.{◌&&◌, ◌||◌, cond, filter, filter_map, min, nat_eq, nat_le, nat_lt, slice_index_or}
use Rattle.std.specs.List.{AllByRecursion, flat_map, list_all, list_any}
use Rattle.std.proofs.lemmas.Bool.{cases_Bool}
use Rattle.std.proofs.lemmas.Bool.Decides.{nat_tests}
use Rattle.vg_plans.specs.Levels.{first_least}
use Rattle.vg_plans.specs.World.{can_shuffle, least_shuffle, World}
use Rattle.vg_shapes.specs.declared.match_table.Match.{Match}
use Rattle.vg_shapes.specs.declared.operand.Operand.{Operand}
use Rattle.vg_shapes.specs.declared.operand.Slot.{Slot}
use Rattle.vg_shapes.specs.declared.pack.Pack.{Pack}
use Rattle.vg_shapes.specs.declared.ssa.Ssa.{Ssa}
use Rattle.vg_shapes.specs.declared.wanted.Wanted.{Wanted}
use Rattle.vg_shapes.specs.declared.wanted.Wanted.TheVariants.{Value, Constant, Nothing}
use Rattle.vg_shapes.specs.Description.{Description}
use Rattle.vg_kernel_plans.specs.declared.recipe.Recipe.{Recipe}
use Rattle.vg_kernel_plans.specs.declared.recipe.Recipe.TheVariants as recipe
use Rattle.vg_kernel_plans.specs.Held.{holds}
use Rattle.vg_kernel_plans.specs.Packing.{packing}
use Rattle.vg_kernel_plans.specs.Shuffles.{is_lane_slot, is_shuffle, moved_from, parts_from, shuffle_of}
use Rattle.vg_kernel_plans.specs.Wants.{is_constant, is_wanted, slot, value_of, wanted_slots, wanted_values}
use Rattle.vg_kernel_plans.proofs.SameTests.{both-true}
use Rattle.vg_emission.specs.Costs.{cost_of_recipe}
use Rattle.vg_emission.specs.Emission.{constant_bytes, no_description}
use Rattle.vg_emission.specs.Program.{inserted_by}
use Rattle.vg_gather.specs.Laws.{RecipesCostThePlan, RecipesInsertThePlan}
use Rattle.vg_gather.specs.Recipes.{can_be_had, description_in, holder, ready_from, shuffled}

-- ---- the least of the keys of numbers

abbrev least : (ℕ → ℕ) → ℕ → List ℕ → ℕ
least key cost [] = cost
least key cost (d ∷ ds) = least key (min (key d) cost) ds

least-first : (key : ℕ → ℕ) (cost best : ℕ) (xs : List ℕ)
    → least key (min (key best) cost) xs ≡ min (key (first_least key best xs)) cost
least-first key cost best [] = refl
least-first key cost best (x ∷ xs) = elim (cases_Bool (nat_lt (key x) (key best))) [
  | inl t ↦
      let low : key x < key best = grind (arith, nat_tests, t) in
      let same : min (key x) (min (key best) cost) ≡ min (key x) cost = omega arith in
      rw t (ap (λ c. least key c xs) same ∙ least-first key cost x xs)
  | inr f ↦
      let high : key best ≤ key x = grind (arith, nat_tests, f) in
      let same : min (key x) (min (key best) cost) ≡ min (key best) cost = omega arith in
      rw f (ap (λ c. least key c xs) same ∙ least-first key cost best xs)
]

least-best : (key : ℕ → ℕ) (best : ℕ) (xs : List ℕ) → key (first_least key best xs) ≤ key best
least-best key best [] = omega arith
least-best key best (x ∷ xs) = elim (cases_Bool (nat_lt (key x) (key best))) [
  | inl t ↦ rw t (let h = least-best key x xs in grind (arith, nat_tests, h))
  | inr f ↦ rw f (least-best key best xs)
]

-- ---- shuffles

-- a description is a shuffle that can make an operand
abbrev pub can_make : Operand → Description → Bool
can_make o e =
    is_shuffle e
    && (nat_eq e.register o.register
    && (list_all (is_lane_slot e.lane_width) (wanted_slots o)
    && (nat_eq (length (flat_map (moved_from e) (wanted_slots o))) (length (wanted_slots o))
    && nat_le e.cost (1 + length (wanted_slots o)))))

abbrev pub made : Operand → Description → ℕ × List Operand
made o e = (e.cost, parts_from (flat_map (moved_from e) (wanted_slots o)) 0 e.params)

module _ {P O N : Type 0} (w : World P O N) (plan : List P) where
  least-step : (key : ℕ → ℕ) (d cost : ℕ) (b : Bool) (s : ℕ × List N) (rest : List (ℕ × List N)) (numbers : List ℕ)
      → s.0 ≡ key d → ((c : ℕ) → least_shuffle w plan c rest ≡ least key c numbers)
      → least_shuffle w plan cost (cond b (s ∷ []) [] ++ rest)
      ≡ least key cost (cond (list_any (can_shuffle w plan) (cond b (s ∷ []) [])) (d ∷ numbers) numbers)
  least-step key d cost true s rest numbers e same = elim (cases_Bool (can_shuffle w plan s)) [
    | inl t ↦
        ap (λ c. least_shuffle w plan (cond c (min s.0 cost) cost) rest) t
        ∙ same (min s.0 cost)
        ∙ ap (λ n. least key (min n cost) numbers) e
        ∙ sym (ap (λ c. least key cost (cond (c || false) (d ∷ numbers) numbers)) t)
    | inr f ↦
        ap (λ c. least_shuffle w plan (cond c (min s.0 cost) cost) rest) f
        ∙ same cost
        ∙ sym (ap (λ c. least key cost (cond (c || false) (d ∷ numbers) numbers)) f)
  ]
  least-step key d cost false s rest numbers e same = same cost

abbrev key_of : List Description → ℕ → ℕ
key_of ds n = (description_in ds n).cost

-- descriptions that stand among all from a number on
abbrev There : List Description → ℕ → List Description → Type 0
There ds d es = (k : ℕ) → slice_index_or es k no_description ≡ description_in ds (d + k)

there-first : (ds : List Description) (d : ℕ) (e : Description) (es : List Description) → There ds d (e ∷ es)
    → e ≡ description_in ds d
there-first ds d e es there = there 0 ∙ ap (description_in ds) (let k : d + 0 ≡ d = omega arith in k)

there-next : (ds : List Description) (d : ℕ) (e : Description) (es : List Description) → There ds d (e ∷ es)
    → There ds (suc d) es
there-next ds d e es there k =
    there (suc k) ∙ ap (description_in ds) (let n : d + suc k ≡ suc d + k = omega arith in n)

least-ready : (ds : List Description) (matches : List Match) (ssa : Ssa) (deps : List (ℕ × ℕ)) (plan : List Pack) (o : Operand)
    (d cost : ℕ) (es : List Description) → There ds d es
    → least_shuffle (packing ds matches ssa deps) plan cost (flat_map (shuffle_of o) es)
    ≡ least (key_of ds) cost (ready_from ds ssa plan o d es)
least-ready ds matches ssa deps plan o d cost [] there = refl
least-ready ds matches ssa deps plan o d cost (e ∷ es) there =
    least-step (packing ds matches ssa deps) plan (key_of ds) d cost (can_make o e) (made o e)
    (flat_map (shuffle_of o) es) (ready_from ds ssa plan o (suc d) es)
    (ap (λ (x : Description). x.cost) (there-first ds d e es there))
    (λ c. least-ready ds matches ssa deps plan o (suc d) c es (there-next ds d e es there))

-- ---- a shuffle costs no more than inserts

values-first : (width l w : ℕ) (x : Wanted) (ss : List Slot)
    → (list_all (is_lane_slot width) (filter (λ s. is_wanted s.wanted) ss) ≡ true
    → length (filter_map (λ s. value_of s.wanted) ss) ≡ length (filter (λ s. is_wanted s.wanted) ss))
    → list_all (is_lane_slot width) (filter (λ s. is_wanted s.wanted) (slot l w x ∷ ss)) ≡ true
    → length (filter_map (λ s. value_of s.wanted) (slot l w x ∷ ss))
    ≡ length (filter (λ s. is_wanted s.wanted) (slot l w x ∷ ss))
values-first width l w (Value v) ss rest t =
    let both = both-true (is_lane_slot width (slot l w (Value v))) _ t in
    ap suc (rest both.1)
values-first width l w (Constant m c) ss rest t = absurd (cc)
values-first width l w Nothing ss rest t = rest t

all-values : (width : ℕ) (ss : List Slot)
    → list_all (is_lane_slot width) (filter (λ s. is_wanted s.wanted) ss) ≡ true
    → length (filter_map (λ s. value_of s.wanted) ss) ≡ length (filter (λ s. is_wanted s.wanted) ss)
all-values width [] t = refl
all-values width (s ∷ ss) t = values-first width s.low s.width s.wanted ss (λ k. all-values width ss k) t

-- what is known of a shuffle that can make an operand
pub record Makes (o : Operand) (e : Description) : Type 0 where
  pub lanes : list_all (is_lane_slot e.lane_width) (wanted_slots o) ≡ true
  pub moves : nat_eq (length (flat_map (moved_from e) (wanted_slots o))) (length (wanted_slots o)) ≡ true
  pub cheap : e.cost ≤ 1 + length (wanted_values o)

pub makes : (o : Operand) (e : Description) → can_make o e ≡ true → Makes o e
makes o e t =
    let a = both-true (is_shuffle e) _ t in
    let b = both-true (nat_eq e.register o.register) _ a.1 in
    let c = both-true (list_all (is_lane_slot e.lane_width) (wanted_slots o)) _ b.1 in
    let d = both-true (nat_eq (length (flat_map (moved_from e) (wanted_slots o))) (length (wanted_slots o))) _ c.1 in
    let same = all-values e.lane_width o.slots c.0 in
    let fits : e.cost ≤ 1 + length (wanted_slots o) = grind (arith, nat_tests, d.1) in
    record { lanes = c.0; moves = d.0; cheap = omega arith }

ready-step : (can : ℕ × List Operand → Bool) (P : ℕ → Type 0) (b : Bool) (s : ℕ × List Operand) (d : ℕ) (numbers : List ℕ)
    → (b ≡ true → can s ≡ true → P d) → AllByRecursion P numbers
    → AllByRecursion P (cond (list_any can (cond b (s ∷ []) [])) (d ∷ numbers) numbers)
ready-step can P true s d numbers first h = elim (cases_Bool (can s)) [
  | inl t ↦ rw t (first refl t, h)
  | inr f ↦ rw f h
]
ready-step can P false s d numbers first h = h

-- what holds of each shuffle that can be had holds of the ready ones
pub ready-all : (ds : List Description) (ssa : Ssa) (plan : List Pack) (o : Operand) (P : ℕ → Type 0) (d : ℕ) (es : List Description)
    → There ds d es
    → ((n : ℕ) (e : Description) → e ≡ description_in ds n → can_make o e ≡ true
    → can_be_had ds ssa plan (made o e) ≡ true → P n)
    → AllByRecursion P (ready_from ds ssa plan o d es)
ready-all ds ssa plan o P d [] there each = tt
ready-all ds ssa plan o P d (e ∷ es) there each =
    ready-step (can_be_had ds ssa plan) P (can_make o e) (made o e) d (ready_from ds ssa plan o (suc d) es)
    (λ t h. each d e (there-first ds d e es there) t h)
    (ready-all ds ssa plan o P (suc d) es (there-next ds d e es there) each)

pub there-all : (ds : List Description) → There ds 0 ds
there-all ds k = ap (description_in ds) (let n : k ≡ 0 + k = omega arith in n)

ready-cheap : (ds : List Description) (ssa : Ssa) (plan : List Pack) (o : Operand)
    → AllByRecursion (λ n. key_of ds n ≤ 1 + length (wanted_values o)) (ready_from ds ssa plan o 0 ds)
ready-cheap ds ssa plan o =
    ready-all ds ssa plan o (λ n. key_of ds n ≤ 1 + length (wanted_values o)) 0 ds (there-all ds)
    (λ n e is t had. (let m = makes o e t in let c = m.cheap in let same = ap (λ (x : Description). x.cost) is in omega arith))

-- ---- costs

shuffled-cost : (ds : List Description) (ssa : Ssa) (plan : List Pack) (o : Operand) (numbers : List ℕ)
    → AllByRecursion (λ n. key_of ds n ≤ 1 + length (wanted_values o)) numbers
    → cost_of_recipe ds o (shuffled ds ssa plan o numbers) ≡ least (key_of ds) (1 + length (wanted_values o)) numbers
shuffled-cost ds ssa plan o [] h = refl
shuffled-cost ds ssa plan o (d ∷ numbers) h =
    let bound = 1 + length (wanted_values o) in
    let best = key_of ds (first_least (key_of ds) d numbers) in
    let first = least-best (key_of ds) d numbers in
    let cheap = h.0 in
    let one : best ≡ min best bound = omega arith in
    one ∙ sym (least-first (key_of ds) bound d numbers)

three : (f : Recipe → ℕ) (b c : Bool) (r s t : Recipe) (x y z : ℕ) → f r ≡ x → f s ≡ y → f t ≡ z
    → f (cond b r (cond c s t)) ≡ cond b x (cond c y z)
three f true c r s t x y z h k l = h
three f false true r s t x y z h k l = k
three f false false r s t x y z h k l = l

pub recipes-cost-the-plan : RecipesCostThePlan
recipes-cost-the-plan ds matches ssa deps plan o =
    let w = packing ds matches ssa deps in
    let ready = ready_from ds ssa plan o 0 ds in
    let bound = 1 + length (wanted_values o) in
    three (cost_of_recipe ds o) (list_any (λ p. holds ds ssa p o) plan) (is_constant o)
    (recipe.Reuse (holder ds ssa plan o)) (recipe.Constant (constant_bytes o)) (shuffled ds ssa plan o ready)
    0 1 (least_shuffle w plan bound (flat_map (shuffle_of o) ds)) refl refl
    (shuffled-cost ds ssa plan o ready (ready-cheap ds ssa plan o)
    ∙ sym (least-ready ds matches ssa deps plan o 0 bound ds (there-all ds)))

-- ---- inserts

abbrev some : List ℕ → Bool
some [] = false
some (n ∷ ns) = true

any-append : {X : Type 0} (test : X → Bool) (xs ys : List X) → list_any test (xs ++ ys) ≡ (list_any test xs || list_any test ys)
any-append test [] ys = refl
any-append test (x ∷ xs) ys = ap (λ b. test x || b) (any-append test xs ys) ∙ grouped (test x) (list_any test xs) (list_any test ys)
  where
    grouped : (a b c : Bool) → (a || (b || c)) ≡ ((a || b) || c)
    grouped true b c = refl
    grouped false b c = refl

some-step : (b c : Bool) (d : ℕ) (numbers : List ℕ) → c ≡ some numbers → (b || c) ≡ some (cond b (d ∷ numbers) numbers)
some-step true c d numbers e = refl
some-step false c d numbers e = e

any-ready : (ds : List Description) (ssa : Ssa) (plan : List Pack) (o : Operand) (d : ℕ) (es : List Description)
    → list_any (can_be_had ds ssa plan) (flat_map (shuffle_of o) es) ≡ some (ready_from ds ssa plan o d es)
any-ready ds ssa plan o d [] = refl
any-ready ds ssa plan o d (e ∷ es) =
    any-append (can_be_had ds ssa plan) (shuffle_of o e) (flat_map (shuffle_of o) es)
    ∙ some-step (list_any (can_be_had ds ssa plan) (shuffle_of o e)) _ d (ready_from ds ssa plan o (suc d) es)
    (any-ready ds ssa plan o (suc d) es)

shuffled-inserts : (ds : List Description) (ssa : Ssa) (plan : List Pack) (o : Operand) (numbers : List ℕ)
    → inserted_by (shuffled ds ssa plan o numbers) o ≡ cond (some numbers) [] (wanted_values o)
shuffled-inserts ds ssa plan o [] = refl
shuffled-inserts ds ssa plan o (d ∷ numbers) = refl

of_three : (f : Recipe → List ℕ) (b c d : Bool) (r s t : Recipe) (vs : List ℕ) → f r ≡ [] → f s ≡ []
    → f t ≡ cond d [] vs → f (cond b r (cond c s t)) ≡ cond (b || (c || d)) [] vs
of_three f true c d r s t vs h k l = h
of_three f false true d r s t vs h k l = k
of_three f false false d r s t vs h k l = l

pub recipes-insert-the-plan : RecipesInsertThePlan
recipes-insert-the-plan ds matches ssa deps plan o =
    let ready = ready_from ds ssa plan o 0 ds in
    of_three (λ r. inserted_by r o) (list_any (λ p. holds ds ssa p o) plan) (is_constant o)
    (list_any (can_be_had ds ssa plan) (flat_map (shuffle_of o) ds))
    (recipe.Reuse (holder ds ssa plan o)) (recipe.Constant (constant_bytes o)) (shuffled ds ssa plan o ready)
    (wanted_values o) refl refl
    (shuffled-inserts ds ssa plan o ready
    ∙ ap (λ b. cond b [] (wanted_values o)) (sym (any-ready ds ssa plan o 0 ds)))
