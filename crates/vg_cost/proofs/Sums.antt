-- A cost as the sum of what its parts are counted as.
use Rattle.std.proofs.Common.{◌≡◌, ℕ, ◌+◌, List, [], ap, ◌∙◌}
use Rattle.std.specs.List.{flat_map, sum_by}
use Rattle.std.specs.Result.{IfOk}
use Rattle.std.specs.declared.alloc.AllocError.{AllocError}
use Rattle.std.specs.declared.result.Result.{Result}
use Rattle.std.specs.declared.result.Result.TheVariants.{Ok, Err}
use Rattle.vg_plans.specs.World.{inserted, operands, plan_cost, recipe_cost, scalar_lines}
use Rattle.vg_shapes.specs.declared.match_table.Match.{Match}
use Rattle.vg_shapes.specs.declared.operand.Operand.{Operand}
use Rattle.vg_shapes.specs.declared.pack.Pack.{Pack}
use Rattle.vg_shapes.specs.declared.ssa.Ssa.{Ssa}
use Rattle.vg_shapes.specs.Description.{Description}
use Rattle.vg_kernel_plans.specs.Packing.{falling_units, packing, price_of}

-- what recipes, inserts and scalars are counted as, neither matches nor dependences are looked at
pub all_parts : (ds : List Description) (matches : List Match) (ssa : Ssa) (deps : List (ℕ × ℕ))
    (plan : List Pack) (price recipes lines packed : ℕ) (os : List Operand) (values : List ℕ)
    → price ≡ sum_by (price_of ds) plan
    → os ≡ operands (packing ds matches ssa []) plan
    → recipes ≡ sum_by (recipe_cost (packing ds [] ssa []) plan) os
    → values ≡ flat_map (inserted (packing ds [] ssa []) plan) os
    → lines ≡ scalar_lines (packing [] [] ssa []) plan values (falling_units ssa)
    → packed ≡ price + recipes
    → packed + lines ≡ plan_cost (packing ds matches ssa deps) plan
all_parts ds matches ssa deps plan price recipes lines packed os values p o r v l k =
    let prices = sum_by (price_of ds) plan in
    let made = sum_by (recipe_cost (packing ds [] ssa []) plan) in
    let into = flat_map (inserted (packing ds [] ssa []) plan) in
    let taken = operands (packing ds matches ssa []) plan in
    ap (λ t. t + lines) (k ∙ ap (λ t. t + recipes) p ∙ ap (λ t. prices + t) (r ∙ ap made o))
    ∙ ap (λ t. prices + made taken + t)
    (l ∙ ap (λ vs. scalar_lines (packing [] [] ssa []) plan vs (falling_units ssa)) (v ∙ ap into o))

-- what is one number whatever the other is
pub whatever : {D : Type 0} (n : ℕ) (f : D → ℕ) (result : Result ℕ AllocError) → ((d : D) → n ≡ f d)
    → IfOk result (λ c. c ≡ n) → IfOk result (λ c. (d : D) → c ≡ f d)
whatever n f (Ok c) same is = λ d. is ∙ same d
whatever n f (Err e) same is = is
