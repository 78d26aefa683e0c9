-- Completed plans of a level, and the careful plan, one after the other.
use Rattle.std.proofs.Common.{◌≡◌, ℕ, zero, suc, ◌+◌, ◌<◌, ◌≤◌, true, false, List, [], ◌∷◌, ◌++◌, length, map, take, drop, get_or, refl, sym, ◌∙◌, ap, subst, inl, inr, arith}
use Rattle.std.specs.Prelude.{Option, Some, None, nat_lt}
use Rattle.std.proofs.lemmas.Bool.{cases_Bool}
use Rattle.std.proofs.lemmas.Bool.Decides.{nat_tests}
use Rattle.std.proofs.lemmas.List.{drop_more, map-append, take_more}
use Rattle.vg_kernel_plans.proofs.FedPlans.{same-cost}
use Rattle.vg_kernel_plans.specs.declared.choice.Choice.{Choice}
use Rattle.vg_kernel_plans.specs.Fed.{IsPlanBy, groups_by, packing_by}
use Rattle.vg_kernel_plans.specs.Laws.{cost_of}
use Rattle.vg_packs.specs.Completing.{IsCompletedWith}
use Rattle.vg_plans.specs.Completed.{careful_with, careful_with_all, completed}
use Rattle.vg_plans.specs.Crowded.{more}
use Rattle.vg_plans.specs.Levels.{first_least}
use Rattle.vg_plans.specs.Members.{Has}
use Rattle.vg_plans.specs.World.{World, plan_cost, stays_plan}
use Rattle.vg_plans.proofs.Completed.{careful-all, completed-plan}
use Rattle.vg_plans.proofs.Lists.{has-append_left, take-whole}
use Rattle.vg_plans.proofs.Plain.{may-follow}
use Rattle.vg_plans.proofs.Prices.{least-append, least-same}
use Rattle.vg_shapes.specs.declared.match_table.Match.{Match}
use Rattle.vg_shapes.specs.declared.operand.Operand.{Operand}
use Rattle.vg_shapes.specs.declared.pack.Pack.{Pack}
use Rattle.vg_shapes.specs.declared.ssa.Ssa.{Ssa}
use Rattle.vg_shapes.specs.Description.{Description}
use Rattle.vg_beam.specs.declared.priced_plan.PricedPlan.{PricedPlan}
use Rattle.vg_beam.proofs.Growing.{least-priced}

-- the value at a place of a list stands in it
pub any-at : {X : Type 0} (xs : List X) (i : ℕ) (d : X) → i < length xs → Has (get_or xs i d) xs
any-at [] i d l = absurd (omega (arith, l))
any-at (x ∷ xs) zero d l = inl refl
any-at (x ∷ xs) (suc i) d l = inr (any-at xs i d (omega (arith, l)))

-- a plan with its cost
abbrev pub IsPriced : (List Pack → ℕ) → PricedPlan → Type 0
IsPriced cost p = p.cost ≡ cost p.plan

-- the lesser of two
pub lesser-is : (cost : List Pack → ℕ) (first second new : PricedPlan) → IsPriced cost first → IsPriced cost second
    → new ≡ first_least (λ (p : PricedPlan). p.cost) first (second ∷ [])
    → (new.plan ≡ first_least cost first.plan (second.plan ∷ [])) × IsPriced cost new
lesser-is cost first second new f s e =
    let least = least-priced (λ (p : PricedPlan). p.plan) (λ (p : PricedPlan). p.cost) cost first (second ∷ []) f (s, tt) in
    (ap (λ (p : PricedPlan). p.plan) e ∙ least.0, subst (IsPriced cost) (sym e) least.1)

-- one that does not cost less
pub lesser-stays : (cost : List Pack → ℕ) (best other : List Pack) → cost best ≤ cost other
    → best ≡ first_least cost best (other ∷ [])
lesser-stays cost best other l = elim (cases_Bool (nat_lt (cost other) (cost best))) [
  | inl t ↦ absurd (grind (arith, nat_tests, t, l))
  | inr f ↦ rw f refl
]

-- one completed plan more, if it costs less
pub completed-one : (cost : List Pack → ℕ) (whole : List Pack → List Pack) (start : List Pack) (plans : List (List Pack)) (i : ℕ)
    (plan least new : List Pack) → i < length plans → plan ≡ get_or plans i []
    → least ≡ first_least cost start (map whole (take i plans))
    → new ≡ first_least cost least (whole plan ∷ [])
    → new ≡ first_least cost start (map whole (take (i + 1) plans))
completed-one cost whole start plans i plan least new l p e n =
    let more : take (i + 1) plans ≡ take i plans ++ plan ∷ [] = take_more plans i [] l ∙ ap (λ q. take i plans ++ q ∷ []) (sym p) in
    let all : map whole (take (i + 1) plans) ≡ map whole (take i plans) ++ whole plan ∷ [] = ap (map whole) more ∙ map-append whole (take i plans) (plan ∷ []) in
    n ∙ ap (λ q. first_least cost q (whole plan ∷ [])) e
    ∙ sym (least-append cost start (map whole (take i plans)) (whole plan ∷ [])) ∙ ap (first_least cost start) (sym all)

pub completed-end : (cost : List Pack → ℕ) (whole : List Pack → List Pack) (start least : List Pack) (plans : List (List Pack)) (i : ℕ)
    → length plans ≤ i → least ≡ first_least cost start (map whole (take i plans)) → least ≡ first_least cost start (map whole plans)
completed-end cost whole start least plans i l e = e ∙ ap (λ ps. first_least cost start (map whole ps)) (take-whole i plans l)

-- what came of a plan with a pack
pub some-completed : (w : World Pack Operand Operand) (turns : ℕ) (plan seen : List Pack) (p : Pack) (found : Option (List Pack)) (whole : List Pack)
    → seen ≡ plan → IsCompletedWith w turns seen p found → found ≡ Some whole
    → (stays_plan w plan p ≡ true) × (whole ≡ completed w turns (plan ++ p ∷ []))
some-completed w turns plan seen p found whole s h e =
    let k : IsCompletedWith w turns seen p (Some whole) = subst (IsCompletedWith w turns seen p) e h in
    subst (λ q. (stays_plan w q p ≡ true) × (whole ≡ completed w turns (q ++ p ∷ []))) s k

pub none-completed : (w : World Pack Operand Operand) (turns : ℕ) (plan seen : List Pack) (p : Pack) (found : Option (List Pack))
    → seen ≡ plan → IsCompletedWith w turns seen p found → found ≡ None → stays_plan w plan p ≡ false
none-completed w turns plan seen p found s h e =
    let k : IsCompletedWith w turns seen p None = subst (IsCompletedWith w turns seen p) e h in
    subst (λ q. stays_plan w q p ≡ false) s k

module _ (ch : Choice) (ds : List Description) (matches : List Match) (ssa : Ssa) (deps : List (ℕ × ℕ)) (turns : ℕ) where
  abbrev world : World Pack Operand Operand
  world = packing_by ch ds matches ssa deps

  -- the completed plan with a store group is a plan
  pub group-plan : (plan : List Pack) (g : Pack) → IsPlanBy ch ds matches ssa deps plan → Has g (groups_by ch ssa)
      → stays_plan world plan g ≡ true → IsPlanBy ch ds matches ssa deps (completed world turns (plan ++ g ∷ []))
  group-plan plan g m h t =
      completed-plan world turns (plan ++ g ∷ []) (more plan g m (may-follow world plan g (has-append_left g (groups_by ch ssa) _ h) t))

  pub careful-none : (best : List Pack) (g : Pack) → stays_plan world best g ≡ false → best ≡ careful_with world turns best g
  careful-none best g f = rw f refl

  pub careful-some : (best whole new : List Pack) (g : Pack) → stays_plan world best g ≡ true → whole ≡ completed world turns (best ++ g ∷ [])
      → new ≡ first_least (cost_of ds matches ssa deps) best (whole ∷ []) → new ≡ careful_with world turns best g
  careful-some best whole new g t w n =
      let e : new ≡ first_least (plan_cost world) best (completed world turns (best ++ g ∷ []) ∷ []) =
      n ∙ ap (λ q. first_least (cost_of ds matches ssa deps) best (q ∷ [])) w
      ∙ least-same (cost_of ds matches ssa deps) (plan_cost world) (λ plan. sym (same-cost ds matches ssa deps ch plan)) best (completed world turns (best ++ g ∷ []) ∷ [])
      in
      rw t e

  -- the careful plan with one group more is a plan
  pub careful-one : (best : List Pack) (g : Pack) → IsPlanBy ch ds matches ssa deps best → Has g (groups_by ch ssa)
      → IsPlanBy ch ds matches ssa deps (careful_with world turns best g)
  careful-one best g m h = careful-all world turns best (g ∷ []) (λ q k. elim k [ inl e ↦ subst (λ x. Has x (groups_by ch ssa)) e h | inr n ↦ absurd n ]) m

  pub careful-more : (groups : List Pack) (i : ℕ) (g : Pack) (best new whole : List Pack) → i < length groups → g ≡ get_or groups i g
      → new ≡ careful_with world turns best g → careful_with_all world turns best (drop i groups) ≡ whole
      → careful_with_all world turns new (drop (i + 1) groups) ≡ whole
  careful-more groups i g best new whole l e n h =
      ap (λ q. careful_with_all world turns q (drop (i + 1) groups)) n
      ∙ ap (careful_with_all world turns best) (sym (drop_more groups i g l ∙ ap (λ q. q ∷ drop (i + 1) groups) (sym e))) ∙ h
