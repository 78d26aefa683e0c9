-- Completed plans, the careful plan and the plan that is chosen beside them are plans, and the last costs no more
-- than those among which it is chosen.
use Rattle.std.proofs.Common.{ℕ, zero, suc, ◌<◌, ◌≤◌, List, [], ◌∷◌, ◌++◌, length, refl, inl, inr}
use Rattle.std.specs.Prelude.{flat_map}
use Rattle.std.proofs.lemmas.Bool.{cases_Bool}
use Rattle.vg_plans.specs.Members.{Has, Every}
use Rattle.vg_plans.specs.Crowded.{Crowded, IsPlan, empty, more}
use Rattle.vg_plans.specs.Levels.{kept_within, met_within}
use Rattle.vg_plans.specs.World.{IsWorld, World, follows, plan_cost, same_packs, stays_plan, tried, tried_for}
use Rattle.vg_plans.specs.PlainPlan.{is_settled, plain_plan, with_groups}
use Rattle.vg_plans.specs.Completed.{careful_plan, careful_with_all, chosen_fed, completed, fed_for_all, lesser, produced, searched}
use Rattle.vg_plans.proofs.Lists.{every-append, every-has, every-map, has-append_left, has-append_right, has-flat_map, has-map, least-below}
use Rattle.vg_plans.proofs.Members.{from-flat_map}
use Rattle.vg_plans.proofs.Optimal.{first_least-best, level-plans, optimal-beside}
use Rattle.vg_plans.proofs.Plans.{go_by_packs}
use Rattle.vg_plans.proofs.Plain.{IsOpen, least-of, may-follow, met-plans, open-all, open-more, plain-plan, sized-plans, walk-plan}

module _ {P O N : Type 0} (w : World P O N) where
  -- what is tried for an operand of the plan is tried after it
  open-tried : (plan : List P) (o : O) (p : P) → IsOpen w plan o → Has p (tried_for w o) → Has p (tried w plan)
  open-tried plan o p a h =
      has-append_right p w.groups _
      (has-flat_map (λ q. flat_map (tried_for w) (w.operands_of q)) a.0 p plan a.1 (has-flat_map (tried_for w) o p (w.operands_of a.0) a.2 h))

  -- the operands of a plan are those of a longer one
  open-with : (plan gs : List P) (os : List O) → Every (IsOpen w plan) os → Every (IsOpen w (with_groups w plan gs)) os
  open-with plan [] os a = a
  open-with plan (g ∷ gs) os a = elim (cases_Bool (stays_plan w plan g)) [
    | inl t ↦ rw t (open-with (plan ++ g ∷ []) gs os (open-more w plan g os a))
    | inr f ↦ rw f (open-with plan gs os a)
  ]

  one-more : (plan : List P) (p : P) (o : O) → IsOpen w plan o → IsOpen w (plan ++ p ∷ []) o
  one-more plan p o a = (a.0, has-append_left a.0 plan (p ∷ []) a.1, a.2)

  -- packs that feed an operand of the plan
  with-plan : (plan gs : List P) (o : O) → IsOpen w plan o → ((g : P) → Has g gs → Has g (w.feeders o)) → IsPlan (follows w) plan → IsPlan (follows w) (with_groups w plan gs)
  with-plan plan [] o a i m = m
  with-plan plan (g ∷ gs) o a i m = elim (cases_Bool (stays_plan w plan g)) [
    | inl t ↦ rw t (with-plan (plan ++ g ∷ []) gs o (one-more plan g o a) (λ q h. i q (inr h)) (more plan g m (may-follow w plan g (open-tried plan o g a (has-append_right g (w.producers o) (w.feeders o) (i g (inl refl)))) t)))
    | inr f ↦ rw f (with-plan plan gs o a (λ q h. i q (inr h)) m)
  ]

  fed-plan : (plan : List P) (os : List O) → Every (IsOpen w plan) os → IsPlan (follows w) plan → IsPlan (follows w) (fed_for_all w plan os)
  fed-plan plan [] a m = m
  fed-plan plan (o ∷ os) a m = elim (cases_Bool (is_settled w plan o)) [
    | inl t ↦ rw t (fed-plan plan os a.1 m)
    | inr f ↦ rw f (fed-plan (with_groups w plan (w.feeders o)) os (open-with plan (w.feeders o) os a.1) (with-plan plan (w.feeders o) o a.0 (λ g h. h) m))
  ]

  own-open : (plan : List P) → Every (IsOpen w plan) (flat_map w.operands_of plan)
  own-open plan = open-all w plan (flat_map w.operands_of plan) (λ o h. let k = from-flat_map w.operands_of o plan h in (k.0, k.1, k.2))

  pub completed-plan : (turns : ℕ) (plan : List P) → IsPlan (follows w) plan → IsPlan (follows w) (completed w turns plan)
  completed-plan turns plan m =
      let long = walk-plan w turns plan (flat_map w.operands_of plan) (own-open plan) m in
      fed-plan (produced w turns plan) (flat_map w.operands_of (produced w turns plan)) (own-open (produced w turns plan)) long

  lesser-plan : (a b : List P) → IsPlan (follows w) a → IsPlan (follows w) b → IsPlan (follows w) (lesser w a b)
  lesser-plan a b m n = least-of (IsPlan (follows w)) (plan_cost w) a (b ∷ []) m (n, tt)

  pub careful-all : (turns : ℕ) (best gs : List P) → ((g : P) → Has g gs → Has g w.groups) → IsPlan (follows w) best → IsPlan (follows w) (careful_with_all w turns best gs)
  careful-all turns best [] i m = m
  careful-all turns best (g ∷ gs) i m = elim (cases_Bool (stays_plan w best g)) [
    | inl t ↦ rw t (careful-all turns (lesser w best (completed w turns (best ++ g ∷ []))) gs (λ q h. i q (inr h))
        (lesser-plan best (completed w turns (best ++ g ∷ [])) m
        (completed-plan turns (best ++ g ∷ []) (more best g m (may-follow w best g (has-append_left g w.groups _ (i g (inl refl))) t)))))
    | inr f ↦ rw f (careful-all turns best gs (λ q h. i q (inr h)) m)
  ]

  pub careful-plan : (turns : ℕ) → IsPlan (follows w) (careful_plan w turns)
  careful-plan turns = careful-all turns [] w.groups (λ g h. h) empty

  kept-plans : (width sizes : ℕ) → Every (IsPlan (follows w)) (kept_within (follows w) (same_packs w) (plan_cost w) width sizes)
  unfolding kept_within
  kept-plans width zero = tt
  kept-plans width (suc d) =
      every-append (IsPlan (follows w)) _ _ (kept-plans width d) (sized-plans (follows w) (suc d) _ (level-plans (follows w) (same_packs w) (plan_cost w) width (suc d)))

  searched-plans : (turns width sizes : ℕ) → Every (IsPlan (follows w)) (searched w turns width sizes)
  searched-plans turns width sizes =
      every-append (IsPlan (follows w)) _ _ (met-plans (follows w) (same_packs w) (plan_cost w) width sizes)
      (every-map (IsPlan (follows w)) (completed w turns) _ (λ plan h. completed-plan turns plan (every-has (IsPlan (follows w)) plan _ (kept-plans width sizes) h)))

  pub chosen_fed-plan : (turns width sizes : ℕ) → IsPlan (follows w) (chosen_fed w turns width sizes)
  chosen_fed-plan turns width sizes =
      least-of (IsPlan (follows w)) (plan_cost w) [] (plain_plan w turns ∷ careful_plan w turns ∷ searched w turns width sizes) empty
      (plain-plan w turns, (careful-plan turns, searched-plans turns width sizes))

  -- what it costs at most
  pub fed-below : (turns width sizes : ℕ) (plan : List P) → Has plan (plain_plan w turns ∷ careful_plan w turns ∷ searched w turns width sizes) → plan_cost w (chosen_fed w turns width sizes) ≤ plan_cost w plan
  fed-below turns width sizes plan h = least-below (plan_cost w) [] plan (plain_plan w turns ∷ careful_plan w turns ∷ searched w turns width sizes) h

  pub below-completed : (turns width sizes : ℕ) (plan : List P) → Has plan (kept_within (follows w) (same_packs w) (plan_cost w) width sizes) → plan_cost w (chosen_fed w turns width sizes) ≤ plan_cost w (completed w turns plan)
  below-completed turns width sizes plan h =
      fed-below turns width sizes (completed w turns plan)
      (inr (inr (has-append_right (completed w turns plan) (met_within (follows w) (same_packs w) (plan_cost w) width sizes) _ (has-map (completed w turns) plan (kept_within (follows w) (same_packs w) (plan_cost w) width sizes) h))))

  pub optimal-fed : IsWorld w → (turns width sizes : ℕ) (plan : List P) → IsPlan (follows w) plan → length plan ≤ sizes →
      ((e : ℕ) → e < length plan → Crowded (follows w) (same_packs w) width e → ⊥) →
      plan_cost w (chosen_fed w turns width sizes) ≤ plan_cost w plan
  optimal-fed is turns width sizes plan m le free =
      optimal-beside (follows w) (same_packs w) (plan_cost w) (go_by_packs w is) width sizes (chosen_fed w turns width sizes) plan
      (first_least-best (plan_cost w) [] (plain_plan w turns ∷ careful_plan w turns ∷ searched w turns width sizes))
      (λ met h. fed-below turns width sizes met (inr (inr (has-append_left met (met_within (follows w) (same_packs w) (plan_cost w) width sizes) _ h))))
      m le free
