-- The programs of plans: what they mean, what they cost, and the rules that they keep.
use Rattle.std.proofs.Common.{◌≡◌, ℕ, suc, ◌*◌, ◌/◌, ◌^◌, ◌<◌, ◌≤◌, true, List, [], ◌∷◌, length, Option, Some, None, sym, ap, subst, ◌∙◌, inl, inr, arith}
use Rattle.std.specs.Prelude.{is_some, nat_eq, slice_get}
use Rattle.std.specs.List.{AllByRecursion}
use Rattle.std.specs.Option.{option_map_or}
use Rattle.std.proofs.Math.Nat.{mod-add-div'}
use Rattle.std.proofs.lemmas.Bool.{eqb-true, or_cases}
use Rattle.std.proofs.lemmas.List.{get_or-map}
use Rattle.vg_shapes.specs.declared.match_table.Match.{Match}
use Rattle.vg_shapes.specs.declared.operand.Operand.{Operand}
use Rattle.vg_shapes.specs.declared.pack.Pack.TheVariants.{Call}
use Rattle.vg_shapes.specs.declared.ssa.Ssa.{Ssa}
use Rattle.vg_shapes.specs.Description.{Description, IsLane}
use Rattle.vg_shapes.specs.Operands.{IsOperand}
use Rattle.vg_shapes.specs.Pack.{match_at}
use Rattle.vg_kernel_plans.specs.declared.recipe.Recipe.TheVariants as recipe
use Rattle.vg_kernel_plans.specs.Held.{holds, lane_width_of, register_of}
use Rattle.vg_kernel_plans.specs.Producers.{are_matched}
use Rattle.vg_kernel_plans.specs.Shuffles.{is_shuffle}
use Rattle.vg_kernel_plans.proofs.SameTests.{both-true}
use Rattle.vg_emission.specs.Emission.{Job, no_description, operand_at, pack_at}
use Rattle.vg_emission.specs.Fit.{LaneFits, LanesFit, RecipeFits}
use Rattle.vg_emission.specs.Planned.{IsLaneWidth}
use Rattle.vg_emission.specs.Program.{operands_in}
use Rattle.vg_emission.proofs.Described.{emitted-calls-described}
use Rattle.vg_emission.proofs.Jobs.{listed}
use Rattle.vg_emission.proofs.Meanings.{emitted-means-units}
use Rattle.vg_emission.proofs.PlanTotals.{emitted-costs-the-plan}
use Rattle.vg_emission.proofs.Rules.{emitted-keeps-rules}
use Rattle.vg_gather.specs.Recipes.{description_in, holder, planned_job, recipe_of, recipes_of}
use Rattle.vg_gather.proofs.Fits.{constants-fit, holders-fit}
use Rattle.vg_gather.proofs.Jobs.{plans-count-recipes}
use Rattle.vg_gather.proofs.Takes.{first-passes}
use Rattle.vg_emission.specs.Truth.{IsCallable, IsRegisterWidth}
use Rattle.vg_plan_relations.proofs.Fitting.{found-fit, lane-term}
use Rattle.vg_plan_laws.specs.Laws.{AreKnown, PlansAreFit, ProgramsCallDescribed, ProgramsCostTheirPlans, ProgramsKeepTheRules, ProgramsMeanTheirUnits}
use Rattle.vg_plan_laws.specs.Made.{IsMade, IsMatchedCall}
use Rattle.vg_plan_laws.proofs.Filled.{all-get}
use Rattle.vg_plan_laws.proofs.Fitted.{fitted-width}
use Rattle.vg_plan_laws.proofs.Keeping.{plans-keep}
use Rattle.vg_plan_laws.proofs.Planned.{operands-are-sound, plans-are-made, plans-are-planned}
use Rattle.vg_plan_laws.proofs.Recipes.{recipe-is}
use Rattle.vg_plan_laws.proofs.Shuffles.{shuffle-widths}

pub programs-mean : ProgramsMeanTheirUnits
programs-mean called ds matches ssa deps plan order known are_true is legal =
    emitted-means-units called ds matches ssa plan (recipes_of ds matches ssa plan) order
    (plans-are-planned ds matches ssa deps plan known is) legal
    (plans-keep called ds matches ssa deps plan known are_true is)

pub programs-cost : ProgramsCostTheirPlans
programs-cost ds matches ssa deps plan order known is legal =
    emitted-costs-the-plan ds matches ssa deps plan (recipes_of ds matches ssa plan) order
    (plans-are-planned ds matches ssa deps plan known is) legal
    (plans-count-recipes ds matches ssa deps plan)

-- ---- the lanes of calls

few-lanes : (r w : ℕ) → IsRegisterWidth r → IsLaneWidth w → r / w ≤ 64
few-lanes r w wide h =
    let most = low-register in
    elim (or_cases (nat_eq w 8) _ h) [
      | inl t ↦ at 8 t (omega arith)
      | inr a ↦ elim (or_cases (nat_eq w 16) _ a) [
        | inl t ↦ at 16 t (omega arith)
        | inr b ↦ elim (or_cases (nat_eq w 32) _ b) [
          | inl t ↦ at 32 t (omega arith)
          | inr c ↦ elim (or_cases (nat_eq w 64) _ c) [
            | inl t ↦ at 64 t (omega arith)
            | inr d ↦ absurd (cc)
          ]
        ]
      ]
    ]
  where
    at : (m : ℕ) → nat_eq w m ≡ true → r / m ≤ 64 → r / w ≤ 64
    at m t g = subst (λ n. r / n ≤ 64) (sym (eqb-true w m t)) g

    low-register : r ≤ 512
    low-register = elim (or_cases (nat_eq r 128) _ wide) [
      | inl t ↦ (let e = eqb-true r 128 t in omega arith)
      | inr a ↦ elim (or_cases (nat_eq r 256) _ a) [
        | inl t ↦ (let e = eqb-true r 256 t in omega arith)
        | inr b ↦ elim (or_cases (nat_eq r 512) _ b) [
          | inl t ↦ (let e = eqb-true r 512 t in omega arith)
          | inr c ↦ absurd (cc)
        ]
      ]
    ]

lanes-wide : (ds : List Description) (matches : List Match) (ssa : Ssa) (d : ℕ) (x : Description)
    (n : ℕ) (lanes : List (Option ℕ)) → AreKnown ds matches ssa
    → slice_get ds d ≡ Some x → are_matched matches d n lanes ≡ true
    → AllByRecursion (LaneFits ssa x.lane_width) lanes
lanes-wide ds matches ssa d x n [] known there t = tt
lanes-wide ds matches ssa d x n (None ∷ lanes) known there t =
    (tt, lanes-wide ds matches ssa d x (suc n) lanes known there t)
lanes-wide ds matches ssa d x n (Some v ∷ lanes) known there t =
    let both =
    both-true (is_some (match_at matches d n v)) (are_matched matches d (suc n) lanes) t in
    let f = found-fit ds matches ssa d n v known.matched both.0 in
    let own = all-get IsCallable ds d x known.described there in
    let lane =
    all-get (IsLane x.params x.lane_width) x.lanes n f.term own.packable.lanes
    (lane-term ds d n x f.term there f.lane) in (
      fitted-width ssa f.term v (f.found).bound known.sound f.fits ∙ ap Some lane.wide,
      lanes-wide ds matches ssa d x (suc n) lanes known there both.1,
    )

call-fits : (ds : List Description) (matches : List Match) (ssa : Ssa) (d : ℕ)
    (lanes : List (Option ℕ)) → AreKnown ds matches ssa
    → IsMatchedCall ds matches ssa d lanes → LanesFit ds ssa d lanes
call-fits ds matches ssa d lanes known call =
    let x = call.entry in
    let own = all-get IsCallable ds d x known.described call.there in
    let wide : lane_width_of ds ssa (Call d lanes) ≡ x.lane_width =
    ap (λ o. option_map_or (λ (e : Description). e.lane_width) o 0) call.there in
    let register : register_of ds ssa (Call d lanes) ≡ x.register =
    ap (λ o. option_map_or (λ (e : Description). e.register) o 0) call.there in
    let split = mod-add-div' x.register x.lane_width in
    let long = ap (λ n. n * x.lane_width) call.long in
    let inside : length lanes * x.lane_width ≤ x.register = omega arith in
    let few = few-lanes x.register x.lane_width own.register own.lane in
    let count = call.long in
    record {
      inside =
          subst (λ n. length lanes * n ≤ register_of ds ssa (Call d lanes)) (sym wide)
          (subst (λ n. length lanes * x.lane_width ≤ n) (sym register) inside);
      few = omega arith;
      widths =
          subst (λ n. AllByRecursion (LaneFits ssa n) lanes) (sym wide)
          (lanes-wide ds matches ssa d x 0 lanes known call.there call.matched);
    }

-- ---- recipes

recipe-fits : (j : Job) (o : Operand) → AllByRecursion IsCallable j.descriptions
    → IsOperand j.ssa o
    → RecipeFits j o (recipe_of j.descriptions j.ssa j.packs o)
recipe-fits j o described is =
    recipe-is j.descriptions j.ssa j.packs o (RecipeFits j o)
    (λ any. holders-fit j.descriptions j.ssa (pack_at j (holder j.descriptions j.ssa j.packs o)) o
    (first-passes (λ p. holds j.descriptions j.ssa p o) j.packs any))
    (λ c. constants-fit j.ssa o is)
    (λ varies n ready.
    let e = description_in j.descriptions n in
    let a = both-true (is_shuffle e) _ ready.can in
    let b = both-true (nat_eq e.register o.register) _ a.1 in (
      ready.low,
      eqb-true e.register o.register b.0,
      shuffle-widths j o e
          (listed IsCallable j.descriptions n no_description described ready.low).packable varies
          ready.can ready.had,
    ))
    tt

-- ---- the rules

pub plans-are-fit : PlansAreFit
plans-are-fit headers ds matches ssa deps plan known have is =
    let j = planned_job ds matches ssa plan in
    let os = operands_in ds matches ssa plan in
    let none : Operand = record { register = 0; slots = [] } in
    let sound = operands-are-sound ds matches ssa deps plan known is in
    record {
      described = have;
      calls =
          λ k e lanes at. call-fits ds matches ssa e lanes known
          (all-get (IsMade ds matches ssa) plan k (Call e lanes)
          (plans-are-made ds matches ssa deps plan is) at);
      recipes = λ o low.
          subst (RecipeFits j (operand_at j o))
          (sym (get_or-map (recipe_of ds ssa plan) os o none (recipe.Constant []) low))
          (recipe-fits j (operand_at j o) known.described
          (listed (IsOperand ssa) os o none sound low));
    }

pub programs-keep-rules : ProgramsKeepTheRules
programs-keep-rules headers ds matches ssa deps plan order known have is legal small =
    emitted-keeps-rules headers ds matches ssa plan (recipes_of ds matches ssa plan) order
    (plans-are-planned ds matches ssa deps plan known is) legal
    (plans-are-fit headers ds matches ssa deps plan known have is)
    (subst (λ n. n < 2 ^ 32) (sym
    (programs-cost ds matches ssa deps plan order known is legal)) small)

pub programs-call : ProgramsCallDescribed
programs-call headers ds matches ssa deps plan order known have is legal =
    emitted-calls-described headers ds matches ssa plan (recipes_of ds matches ssa plan) order
    (plans-are-planned ds matches ssa deps plan known is) legal
    (plans-are-fit headers ds matches ssa deps plan known have is)
