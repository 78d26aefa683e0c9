-- What the empty plan costs.
use Rattle.std.proofs.Common.{ℕ, ◌≤◌, List, [], ◌∷◌, ◌++◌, length, inl, inr, arith}
use Rattle.std.specs.Prelude.{◌&&◌}
use Rattle.std.proofs.lemmas.Bool.{cases_Bool}
use Rattle.vg_plans.specs.World.{World, is_emitted, is_in, is_packed, plan_cost, scalar_lines}
use Rattle.vg_shapes.specs.declared.match_table.Match.{Match}
use Rattle.vg_shapes.specs.declared.ssa.Ssa.{Ssa}
use Rattle.vg_shapes.specs.Description.{Description}
use Rattle.vg_kernel_plans.specs.Packing.{falling_units, packing}
use Rattle.vg_kernel_plans.proofs.Inside.{units-counted}

lines-few : {P O N : Type 0} (w : World P O N) (plan : List P) (needed vs : List ℕ) → scalar_lines w plan needed vs ≤ length vs
lines-few w plan needed [] = omega arith
lines-few w plan needed (v ∷ vs) = elim (cases_Bool (is_emitted w plan needed v)) [
  | inl t ↦ rw t (let rest = lines-few w plan (w.uses_of v ++ needed) vs in omega (arith, rest))
  | inr f ↦ rw f (elim (cases_Bool (is_packed w plan v && is_in v needed)) [
    | inl t ↦ rw t (let rest = lines-few w plan needed vs in omega (arith, rest))
    | inr g ↦ rw g (let rest = lines-few w plan needed vs in omega (arith, rest))
  ])
]

-- it costs at most a line for each unit
pub empty-cost : (ds : List Description) (matches : List Match) (ssa : Ssa) (deps : List (ℕ × ℕ))
    → plan_cost (packing ds matches ssa deps) [] ≤ length ssa.units
empty-cost ds matches ssa deps =
    let lines = lines-few (packing ds matches ssa deps) [] [] (falling_units ssa) in
    omega (arith, lines, units-counted ssa)
