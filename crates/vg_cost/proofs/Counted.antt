-- The cost of a plan, by what is known of each operand that it takes.
use Rattle.std.proofs.Common.{◌≡◌, ℕ, ◌+◌, Bool, false, List, [], ◌∷◌, ◌++◌, length, map, refl, sym, ◌∙◌, ap, subst, arith}
use Rattle.std.specs.Prelude.{MatchOption, None, Option, replicate}
use Rattle.std.specs.List.{flat_map, sum_by}
use Rattle.std.proofs.lemmas.List.Sums.{sum_by-cons}
use Rattle.vg_plans.specs.World.{operands, plan_cost, scalar_lines}
use Rattle.vg_shapes.specs.declared.match_table.Match.{Match}
use Rattle.vg_shapes.specs.declared.operand.Operand.{Operand}
use Rattle.vg_shapes.specs.declared.pack.Pack.{Pack}
use Rattle.vg_shapes.specs.declared.ssa.Ssa.{Ssa}
use Rattle.vg_shapes.specs.Description.{Description}
use Rattle.vg_shapes.specs.Pack.{units_of}
use Rattle.vg_shapes.specs.Units.{arguments}
use Rattle.vg_kernel_plans.specs.Packing.{falling_units, packing, price_of}
use Rattle.vg_cost.specs.declared.taken.Taken.{Taken}
use Rattle.vg_cost.specs.Lines.{Costs}
use Rattle.vg_cost.specs.Marks.{Has, Marked}
use Rattle.vg_cost.specs.Running.{taken_by}
use Rattle.vg_cost.specs.Taken.{inserted_for, taken_for}
use Rattle.vg_cost.proofs.Growing.{known-cost}
use Rattle.vg_cost.proofs.Marking.{has_marked}

sum-known : (know : Operand → Taken) (os : List Operand)
    → sum_by (λ o. (know o).recipe.lines) os ≡ sum_by (λ t. t.recipe.lines) (map know os)
sum-known know [] = refl
sum-known know (o ∷ os) =
    sum_by-cons (λ o. (know o).recipe.lines) o os
    ∙ ap (λ n. (know o).recipe.lines + n) (sum-known know os)
    ∙ sym (sum_by-cons (λ t. t.recipe.lines) (know o) (map know os))

values-known : (know : Operand → Taken) (os : List Operand)
    → flat_map (λ o. inserted_for (know o)) os ≡ flat_map inserted_for (map know os)
values-known know [] = refl
values-known know (o ∷ os) = ap (λ l. inserted_for (know o) ++ l) (values-known know os)

-- the cost by the marks is that of the plan
pub costs-apart : (ds : List Description) (matches : List Match) (ssa : Ssa) (deps : List (ℕ × ℕ)) (plan : List Pack)
    (longer clear needed : List Bool) (price recipes cost count : ℕ) (os : List Operand)
    → count ≡ arguments ssa + length ssa.units
    → Has (arguments ssa + length ssa.units) (flat_map units_of plan) longer
    → clear ≡ replicate count false
    → os ≡ operands (packing ds matches ssa []) plan
    → Marked (flat_map (λ o. inserted_for (taken_for ds ssa plan o)) os) clear needed
    → price ≡ sum_by (price_of ds) plan
    → recipes ≡ sum_by (λ o. (taken_for ds ssa plan o).recipe.lines) os
    → Costs ssa longer needed price recipes cost
    → cost ≡ plan_cost (packing ds matches ssa deps) plan
costs-apart ds matches ssa deps plan longer clear needed price recipes cost count os e h c o m p r costs =
    let know = taken_for ds ssa plan in
    let ts = taken_by ds matches ssa plan in
    let values : flat_map (λ o. inserted_for (know o)) os ≡ flat_map inserted_for ts =
    values-known know os ∙ ap (λ l. flat_map inserted_for (map know l)) o
    in
    let lines : recipes ≡ sum_by (λ t. t.recipe.lines) ts = r ∙ sum-known know os ∙ ap (λ l. sum_by (λ t. t.recipe.lines) (map know l)) o in
    let has = has_marked count (flat_map inserted_for ts) clear needed c (subst (λ l. Marked l clear needed) values m) in
    known-cost ds matches ssa deps plan price cost ts p refl
    (costs plan (flat_map inserted_for ts) h (subst (λ n. Has n (flat_map inserted_for ts) needed) e has)
    ∙ ap (λ n. price + n + scalar_lines (packing [] [] ssa []) plan (flat_map inserted_for ts) (falling_units ssa)) lines)

-- the empty plan
pub costs-none : (ds : List Description) (matches : List Match) (ssa : Ssa) (deps : List (ℕ × ℕ)) (cost : ℕ)
    → cost ≡ 0 + sum_by (λ (t : Taken). t.recipe.lines) [] + scalar_lines (packing [] [] ssa []) [] (flat_map inserted_for []) (falling_units ssa)
    → cost ≡ plan_cost (packing ds matches ssa deps) []
costs-none ds matches ssa deps cost c = known-cost ds matches ssa deps [] 0 cost [] refl refl c

-- where there is no last pack there is none
pub none-empty : {X Y : Type 0} (xs : List X) (found : Option Y) (found_is : Y → Type 0)
    → MatchOption found (length xs ≡ 0) found_is → found ≡ None → xs ≡ []
none-empty [] found found_is m e = refl
none-empty (x ∷ xs) found found_is m e =
    let k : length (x ∷ xs) ≡ 0 = subst (λ r. MatchOption r (length (x ∷ xs) ≡ 0) found_is) e m in absurd (omega (arith, k))
