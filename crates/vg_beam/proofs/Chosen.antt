-- What holds of the chosen plan.
use Rattle.std.proofs.Common.{◌≡◌, ℕ, ◌<◌, ◌≤◌, true, false, List, [], ◌∷◌, ◌++◌, length, map, refl, sym, ◌∙◌, ap, subst, arith}
use Rattle.std.specs.Prelude.{nat_le}
use Rattle.std.proofs.lemmas.Bool.Decides.{nat_tests}
use Rattle.vg_kernel_plans.proofs.FedPlans.{same-cost}
use Rattle.vg_kernel_plans.specs.declared.choice.Choice.{Choice}
use Rattle.vg_kernel_plans.specs.Completed.{chosen_fed_of, turns_of}
use Rattle.vg_kernel_plans.specs.Fed.{fed_aligned, packing_by, unfed}
use Rattle.vg_kernel_plans.specs.FedLaws.{ChosenFedPlansAreOptimal, ChosenFedPlansFit, PlansHoldByChoice}
use Rattle.vg_kernel_plans.specs.Laws.{ChosenPlansAreOptimal, ChosenPlansFit, KernelPlansAreShort, cost_of}
use Rattle.vg_kernel_plans.specs.Packing.{chosen_of, plain_of, sizes_of}
use Rattle.vg_plans.specs.Completed.{careful_plan, chosen_fed, completed, searched}
use Rattle.vg_plans.specs.Levels.{first_least, kept_within, met_within}
use Rattle.vg_plans.specs.PlainPlan.{plain_plan}
use Rattle.vg_plans.specs.World.{World, follows, plan_cost, same_packs}
use Rattle.vg_plans.proofs.Optimal.{first_least-best}
use Rattle.vg_plans.proofs.Prices.{kept_within-same, least-append, least-beside, least-same, met-same}
use Rattle.vg_shapes.specs.declared.match_table.Match.{Match}
use Rattle.vg_shapes.specs.declared.operand.Operand.{Operand}
use Rattle.vg_shapes.specs.declared.pack.Pack.{Pack}
use Rattle.vg_shapes.specs.declared.ssa.Ssa.{Ssa}
use Rattle.vg_shapes.specs.Description.{Description}
use Rattle.vg_beam.specs.Chosen.{HaveShortPacksBy, IsChosen, IsChosenFed}

pub sizes-few : (ssa : Ssa) → length ssa.units ≤ 256 → sizes_of ssa ≡ length ssa.units
sizes-few ssa few = let t : nat_le (length ssa.units) 256 ≡ true = grind (arith, nat_tests, few) in rw t refl

pub sizes-many : (ssa : Ssa) → 256 < length ssa.units → sizes_of ssa ≡ 0
sizes-many ssa many = let f : nat_le (length ssa.units) 256 ≡ false = grind (arith, nat_tests, many) in rw f refl

module _ (ds : List Description) (matches : List Match) (ssa : Ssa) (deps : List (ℕ × ℕ)) (width : ℕ) where
  abbrev cost : List Pack → ℕ
  cost = cost_of ds matches ssa deps

  abbrev world_by : Choice → World Pack Operand Operand
  world_by ch = packing_by ch ds matches ssa deps

  abbrev met_by : Choice → ℕ → List (List Pack)
  met_by ch sizes = met_within (follows (world_by ch)) (same_packs (world_by ch)) cost width sizes

  abbrev kept_by : Choice → ℕ → List (List Pack)
  kept_by ch sizes = kept_within (follows (world_by ch)) (same_packs (world_by ch)) cost width sizes

  -- what the search finds where nothing feeds
  pub by-search : (ch : Choice) (plan first : List Pack) (sizes : ℕ) → ch ≡ unfed → sizes ≡ sizes_of ssa
      → first ≡ first_least cost [] (plain_of ds matches ssa deps ∷ [])
      → plan ≡ first_least cost first (met_by ch sizes)
      → plan ≡ chosen_of ds matches ssa deps width
  by-search ch plan first sizes e s f p =
      p ∙ ap (λ q. first_least cost first (met_by q sizes)) e
      ∙ ap (λ q. first_least cost q (met_by unfed sizes)) f
      ∙ ap (λ n. first_least cost (first_least cost [] (plain_of ds matches ssa deps ∷ [])) (met_by unfed n)) s

  pub is-chosen : ChosenPlansFit → ChosenPlansAreOptimal → KernelPlansAreShort → (plan : List Pack)
      → plan ≡ chosen_of ds matches ssa deps width → IsChosen ds matches ssa deps width plan
  is-chosen fit optimal short plan e =
      let fits = fit ds matches ssa deps width in
      subst (IsChosen ds matches ssa deps width) (sym e) (record {
        plan = fits.plan;
        below_plain = fits.below_plain;
        below_scalar = fits.below_scalar;
        optimal = λ m few other is free.
            let l = short ds matches ssa deps other m is in
            let s = sizes-few ssa few in
            optimal ds matches ssa deps width other is (omega (arith, l, s)) free;
      })

  -- packs of plans are few of lanes, by whatever choice it is
  pub short-by : (ch other : Choice) → other ≡ ch → HaveShortPacksBy ch ds matches ssa deps → HaveShortPacksBy other ds matches ssa deps
  short-by ch other e h = subst (λ q. HaveShortPacksBy q ds matches ssa deps) (sym e) h

  -- ---- where load groups feed

  -- the first plan of the search, and all that it finds
  abbrev first_of : Choice → List Pack
  first_of ch = first_least cost [] (plain_plan (world_by ch) (turns_of ssa) ∷ careful_plan (world_by ch) (turns_of ssa) ∷ [])

  abbrev found_by : Choice → ℕ → List (List Pack)
  found_by ch sizes = met_by ch sizes ++ map (completed (world_by ch) (turns_of ssa)) (kept_by ch sizes)

  -- costs are the same whatever is tried
  priced : (ch : Choice) (plan : List Pack) → cost plan ≡ plan_cost (world_by ch) plan
  priced ch plan = sym (same-cost ds matches ssa deps ch plan)

  found-same : (ch : Choice) (sizes : ℕ) → found_by ch sizes ≡ searched (world_by ch) (turns_of ssa) width sizes
  found-same ch sizes =
      let w = world_by ch in
      ap (λ xs. xs ++ map (completed w (turns_of ssa)) (kept_by ch sizes)) (met-same (follows w) (same_packs w) cost (plan_cost w) (priced ch) width sizes)
      ∙ ap (λ xs. met_within (follows w) (same_packs w) (plan_cost w) width sizes ++ map (completed w (turns_of ssa)) xs)
      (kept_within-same (follows w) (same_packs w) cost (plan_cost w) (priced ch) width sizes)

  fed-same : (ch : Choice) (sizes : ℕ) → first_least cost (first_of ch) (found_by ch sizes) ≡ chosen_fed (world_by ch) (turns_of ssa) width sizes
  fed-same ch sizes =
      let w = world_by ch in
      least-same cost (plan_cost w) (priced ch) (first_of ch) (found_by ch sizes)
      ∙ ap (λ q. first_least (plan_cost w) q (found_by ch sizes))
      (least-same cost (plan_cost w) (priced ch) [] (plain_plan w (turns_of ssa) ∷ careful_plan w (turns_of ssa) ∷ []))
      ∙ ap (first_least (plan_cost w) (first_least (plan_cost w) [] (plain_plan w (turns_of ssa) ∷ careful_plan w (turns_of ssa) ∷ []))) (found-same ch sizes)

  pub by-fed : (ch : Choice) (plan first : List Pack) (sizes : ℕ) → ch ≡ fed_aligned → sizes ≡ sizes_of ssa
      → first ≡ first_of ch → plan ≡ first_least cost first (found_by ch sizes)
      → plan ≡ chosen_fed_of ds matches ssa deps width
  by-fed ch plan first sizes e s f p =
      p ∙ ap (λ q. first_least cost q (found_by ch sizes)) f ∙ fed-same ch sizes
      ∙ ap (λ q. chosen_fed (world_by q) (turns_of ssa) width sizes) e
      ∙ ap (chosen_fed (world_by fed_aligned) (turns_of ssa) width) s

  -- the first plan costs at most as much as the empty one
  pub first-below : (first plain careful : List Pack) → first ≡ first_least cost [] (plain ∷ careful ∷ []) → cost first ≤ cost []
  first-below first plain careful e = subst (λ q. cost q ≤ cost []) (sym e) (first_least-best cost [] (plain ∷ careful ∷ []))

  -- what is found and what is completed, searched beside each other
  pub beside : (best first whole start plan : List Pack) (met kept : List (List Pack)) → cost first ≤ cost start
      → best ≡ first_least cost first met → whole ≡ first_least cost start kept → plan ≡ first_least cost best (whole ∷ [])
      → plan ≡ first_least cost first (met ++ kept)
  beside best first whole start plan met kept l b h p =
      let low : cost (first_least cost first met) ≤ cost start =
      let k = first_least-best cost first met in omega (arith, k, l)
      in
      p ∙ ap (λ q. first_least cost q (whole ∷ [])) b ∙ ap (λ q. first_least cost (first_least cost first met) (q ∷ [])) h
      ∙ sym (least-beside cost (first_least cost first met) start kept low)
      ∙ sym (least-append cost first met kept)

  pub is-chosen-fed : ChosenFedPlansFit → ChosenFedPlansAreOptimal → PlansHoldByChoice → (plan : List Pack)
      → plan ≡ chosen_fed_of ds matches ssa deps width → IsChosenFed ds matches ssa deps width plan
  is-chosen-fed fit optimal hold plan e =
      let fits = fit ds matches ssa deps width in
      let holds = hold fed_aligned ds matches ssa deps in
      subst (IsChosenFed ds matches ssa deps width) (sym e) (record {
        plan = fits.plan;
        below_scalar = fits.below_scalar;
        below_plain = fits.below_plain;
        below_careful = fits.below_careful;
        optimal = λ m few other is free.
            let l = holds.short other m is in
            let s = sizes-few ssa few in
            optimal ds matches ssa deps width other is (omega (arith, l, s)) free;
      })
