-- The job of the code is that of the definition.
use Rattle.std.proofs.Common.{◌≡◌, ℕ, ◌+◌, ◌<◌, Bool, List, length, refl, sym, ap, ◌∙◌, arith, inl, inr}
use Rattle.std.specs.Prelude.{◌-◌, ◌&&◌, Option, Some, None, slice_get}
use Rattle.std.proofs.lemmas.Bool.{cases_lt, cond-false, le-ltb}
use Rattle.std.proofs.lemmas.Option.{slice_get_within}
use Rattle.vg_plans.specs.World.{is_in}
use Rattle.vg_shapes.specs.declared.match_table.Match.{Match}
use Rattle.vg_shapes.specs.declared.operand.Operand.{Operand}
use Rattle.vg_shapes.specs.declared.pack.Pack.{Pack}
use Rattle.vg_shapes.specs.declared.ssa.Ssa.{Ssa}
use Rattle.vg_shapes.specs.declared.ssa_unit.SsaUnit.{SsaUnit}
use Rattle.vg_shapes.specs.Description.{Description}
use Rattle.vg_shapes.specs.Units.{arguments, unit_at}
use Rattle.vg_kernel_plans.specs.declared.recipe.Recipe.{Recipe}
use Rattle.vg_kernel_plans.specs.Packing.{falling_units}
use Rattle.vg_emission.specs.Program.{all_inserted, has_value, job_of, needed_behind, operands_in, takes_in}
use Rattle.vg_emit.specs.Marks.{is_marked, Mark}

unit-inside : (ssa : Ssa) (v : ℕ) (u : SsaUnit) → unit_at ssa v ≡ Some u → v < arguments ssa + length ssa.units
unit-inside ssa v u e = elim (cases_lt v (arguments ssa)) [
  | inl a ↦ omega arith
  | inr a ↦
      let there = slice_get_within ssa.units (v - arguments ssa) u (sym (cond-false _ None (slice_get ssa.units (v - arguments ssa)) (le-ltb _ _ a)) ∙ e) in
      omega arith
]

needed-same : (ssa : Ssa) (marks : List Bool) (needed : List ℕ) → Mark (arguments ssa + length ssa.units) marks needed
    → (v : ℕ) → (has_value ssa v && is_marked marks v) ≡ (has_value ssa v && is_in v needed)
needed-same ssa marks needed m v = by (unit_at ssa v) refl
  where
    by : (u : Option SsaUnit) → unit_at ssa v ≡ u → (has_value ssa v && is_marked marks v) ≡ (has_value ssa v && is_in v needed)
    by None e = rw e refl
    by (Some u) e = ap (λ b. has_value ssa v && b) (m.at v (unit-inside ssa v u e))

pub job-is : (ds : List Description) (matches : List Match) (ssa : Ssa) (packs : List Pack) (recipes : List Recipe) (operands : List Operand) (takes : List (List ℕ)) (marks : List Bool)
    → operands ≡ operands_in ds matches ssa packs
    → takes ≡ takes_in ds matches ssa packs operands
    → Mark (arguments ssa + length ssa.units) marks (needed_behind ssa packs (all_inserted recipes operands) (falling_units ssa))
    → record {
      ssa = ssa;
      descriptions = ds;
      packs = packs;
      takes = takes;
      operands = operands;
      recipes = recipes;
      needed = λ v. has_value ssa v && is_marked marks v;
    } ≡ job_of ds matches ssa packs recipes
job-is ds matches ssa packs recipes operands takes marks e t m =
    let whole = t ∙ ap (takes_in ds matches ssa packs) e in
    let listed : (v : ℕ) → (has_value ssa v && is_marked marks v) ≡ (has_value ssa v && is_in v (needed_behind ssa packs (all_inserted recipes (operands_in ds matches ssa packs)) (falling_units ssa))) =
    λ v. needed-same ssa marks _ m v ∙ ap (λ os. has_value ssa v && is_in v (needed_behind ssa packs (all_inserted recipes os) (falling_units ssa))) e
    in
    λ i. record {
      ssa = ssa;
      descriptions = ds;
      packs = packs;
      takes = whole i;
      operands = e i;
      recipes = recipes;
      needed = λ v. listed v i;
    }
