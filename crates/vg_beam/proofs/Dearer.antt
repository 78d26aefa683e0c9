-- Completed plans have the packs of the plans that they complete, so that they cost at least what these do by themselves.
use Rattle.std.proofs.Common.{ℕ, zero, suc, ◌+◌, ◌≤◌, List, [], ◌∷◌, ◌++◌, subst, inl, inr, arith}
use Rattle.std.specs.Prelude.{Option, Some, None, flat_map, sum_by}
use Rattle.std.proofs.lemmas.Bool.{cases_Bool}
use Rattle.std.proofs.lemmas.List.Sums.{sum_by_push}
use Rattle.vg_plans.specs.Completed.{completed, fed_for_all, produced}
use Rattle.vg_plans.specs.PlainPlan.{first_producer, is_settled, walk, with_groups}
use Rattle.vg_plans.specs.World.{World, inserted, operands, plan_cost, recipe_cost, scalar_lines, stays_plan}
use Rattle.vg_kernel_plans.proofs.FedPlans.{same-cost}
use Rattle.vg_kernel_plans.specs.declared.choice.Choice.{Choice}
use Rattle.vg_kernel_plans.specs.Fed.{packing_by}
use Rattle.vg_kernel_plans.specs.Laws.{cost_of}
use Rattle.vg_kernel_plans.specs.Packing.{price_of}
use Rattle.vg_shapes.specs.declared.match_table.Match.{Match}
use Rattle.vg_shapes.specs.declared.pack.Pack.{Pack}
use Rattle.vg_shapes.specs.declared.ssa.Ssa.{Ssa}
use Rattle.vg_shapes.specs.Description.{Description}

at_least : (a b c : ℕ) → a ≤ a + b + c
at_least a b c = omega arith

through : (a b c d : ℕ) → a ≤ b → b ≤ c → c ≤ d → a ≤ d
through a b c d p q r = omega (arith, p, q, r)

module _ {P O N : Type 0} (w : World P O N) where
  abbrev paid : List P → ℕ
  paid plan = sum_by w.price plan

  with-one : (plan : List P) (p : P) → paid plan ≤ paid (plan ++ p ∷ [])
  with-one plan p = let e = sum_by_push w.price plan p in omega (arith, e)

  with-all : (plan gs : List P) → paid plan ≤ paid (with_groups w plan gs)
  with-all plan [] = omega arith
  with-all plan (g ∷ gs) = elim (cases_Bool (stays_plan w plan g)) [
    | inl t ↦ rw t (let a = with-one plan g in let b = with-all (plan ++ g ∷ []) gs in omega (arith, a, b))
    | inr f ↦ rw f (with-all plan gs)
  ]

  when-fed : (plan : List P) (os : List O) → paid plan ≤ paid (fed_for_all w plan os)
  when-fed plan [] = omega arith
  when-fed plan (o ∷ os) = elim (cases_Bool (is_settled w plan o)) [
    | inl t ↦ rw t (when-fed plan os)
    | inr f ↦ rw f (
        let a = with-all plan (w.feeders o) in let b = when-fed (with_groups w plan (w.feeders o)) os in omega (arith, a, b))
  ]

  when-walked : (turns : ℕ) (plan : List P) (queue : List O) → paid plan ≤ paid (walk w turns plan queue)
  unfolding walk
  when-walked zero plan queue = omega arith
  when-walked (suc turns) plan [] = omega arith
  when-walked (suc turns) plan (o ∷ queue) = elim (cases_Bool (is_settled w plan o)) [
    | inl t ↦ rw t (when-walked turns plan queue)
    | inr f ↦ rw f (by_producer (when-walked turns plan queue) (λ p. when-walked turns (plan ++ p ∷ []) (queue ++ w.operands_of p))
        (first_producer w plan o))
  ]
    where
      by_producer : paid plan ≤ paid (walk w turns plan queue)
          → ((p : P) → paid (plan ++ p ∷ []) ≤ paid (walk w turns (plan ++ p ∷ []) (queue ++ w.operands_of p)))
          → (found : Option P)
          → paid plan ≤ paid (elim found as (λ p. List P) [ None ↦ walk w turns plan queue | Some p ↦ walk w turns (plan ++ p ∷ []) (queue ++ w.operands_of p) ])
      by_producer without more None = without
      by_producer without more (Some p) = let a = with-one plan p in let b = more p in omega (arith, a, b)

  when-completed : (turns : ℕ) (plan : List P) → paid plan ≤ plan_cost w (completed w turns plan)
  when-completed turns plan =
      through _ _ _ _ (when-walked turns plan (flat_map w.operands_of plan))
      (when-fed (produced w turns plan) (flat_map w.operands_of (produced w turns plan)))
      (at_least (paid (completed w turns plan))
      (sum_by (recipe_cost w (completed w turns plan)) (operands w (completed w turns plan)))
      (scalar_lines w (completed w turns plan) (flat_map (inserted w (completed w turns plan)) (operands w (completed w turns plan))) w.units))

-- a completed plan costs at least what the packs do of the plan that it completes
pub completed-dearer : (ch : Choice) (ds : List Description) (matches : List Match) (ssa : Ssa) (deps : List (ℕ × ℕ)) (turns : ℕ) (plan : List Pack)
    → sum_by (price_of ds) plan ≤ cost_of ds matches ssa deps (completed (packing_by ch ds matches ssa deps) turns plan)
completed-dearer ch ds matches ssa deps turns plan =
    let w = packing_by ch ds matches ssa deps in
    subst (λ n. sum_by (price_of ds) plan ≤ n) (same-cost ds matches ssa deps ch (completed w turns plan)) (when-completed w turns plan)
