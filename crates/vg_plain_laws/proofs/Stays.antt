-- Plans that are completed stay the same with more turns.
use Rattle.std.proofs.Common.{◌≡◌, ℕ, zero, suc, ◌+◌, ◌*◌, ◌≤◌, Bool, true, false, List, [], ◌∷◌, ◌++◌, map, refl, sym, ◌∙◌, ap, subst, inl, inr, arith}
use Rattle.std.specs.Prelude.{flat_map}
use Rattle.std.proofs.lemmas.Bool.{cases_Bool}
use Rattle.vg_plans.specs.Completed.{careful_plan, careful_with, careful_with_all, chosen_fed, completed, fed, lesser, produced, searched}
use Rattle.vg_plans.specs.Crowded.{IsPlan, empty, more}
use Rattle.vg_plans.specs.Levels.{first_least, kept_within, met_within}
use Rattle.vg_plans.specs.Members.{Has, Every}
use Rattle.vg_plans.specs.PlainPlan.{plain_plan, walk}
use Rattle.vg_plans.specs.World.{World, follows, plan_cost, same_packs, stays_plan}
use Rattle.vg_plans.proofs.Completed.{careful-all}
use Rattle.vg_plans.proofs.Lists.{every-append, has-append_left}
use Rattle.vg_plans.proofs.Optimal.{level-plans}
use Rattle.vg_plans.proofs.Plain.{may-follow, sized-plans}
use Rattle.vg_plain_laws.specs.Walk.{WalksTo}
use Rattle.vg_plain_laws.proofs.Ends.{HaveUnits, TakeTwo, own-stays, own-walks, plain-stays}

map-same : {X Y : Type 0} (f g : X → Y) (P : X → Type 0) (xs : List X) → ((x : X) → P x → f x ≡ g x) → Every P xs → map f xs ≡ map g xs
map-same f g P [] same all = refl
map-same f g P (x ∷ xs) same all =
    let first = same x all.0 in
    let rest = map-same f g P xs same all.1 in
    (λ i. first i ∷ rest i)

module _ {P O N : Type 0} (w : World P O N) (n : ℕ) (two : TakeTwo w) (few : HaveUnits w n) where
  pub produced-walks : (plan : List P) → IsPlan (follows w) plan → WalksTo w plan (flat_map w.operands_of plan) (produced w (2 * n) plan)
  produced-walks plan is = own-walks w n two few plan is

  pub completed-stays : (turns : ℕ) (plan : List P) → 2 * n ≤ turns → IsPlan (follows w) plan → completed w turns plan ≡ completed w (2 * n) plan
  completed-stays turns plan l is = ap (fed w) (own-stays w n two few turns plan l is)

  careful-with-stays : (turns : ℕ) (best : List P) (g : P) → 2 * n ≤ turns → Has g w.groups → IsPlan (follows w) best → careful_with w turns best g ≡ careful_with w (2 * n) best g
  careful-with-stays turns best g l h is = elim (cases_Bool (stays_plan w best g)) [
    | inl t ↦
        let grown = more best g is (may-follow w best g (has-append_left g w.groups _ h) t) in
        rw t (ap (lesser w best) (completed-stays turns (best ++ g ∷ []) l grown))
    | inr f ↦ rw f refl
  ]

  careful-all-stays : (turns : ℕ) (best gs : List P) → 2 * n ≤ turns → ((g : P) → Has g gs → Has g w.groups) → IsPlan (follows w) best → careful_with_all w turns best gs ≡ careful_with_all w (2 * n) best gs
  careful-all-stays turns best [] l inside is = refl
  careful-all-stays turns best (g ∷ gs) l inside is =
      let one = careful-with-stays turns best g l (inside g (inl refl)) is in
      let next = careful-all w (2 * n) best (g ∷ []) (λ q h. first q h) is in
      ap (λ plan. careful_with_all w turns plan gs) one
      ∙ careful-all-stays turns (careful_with w (2 * n) best g) gs l (λ q h. inside q (inr h)) next
    where
      first : (q : P) → Has q (g ∷ []) → Has q w.groups
      first q h = elim h [ inl e ↦ inside q (inl e) | inr none ↦ absurd none ]

  pub careful-stays : (turns : ℕ) → 2 * n ≤ turns → careful_plan w turns ≡ careful_plan w (2 * n)
  careful-stays turns l = careful-all-stays turns [] w.groups l (λ g h. h) empty

  kept-plans : (width sizes : ℕ) → Every (IsPlan (follows w)) (kept_within (follows w) (same_packs w) (plan_cost w) width sizes)
  unfolding kept_within
  kept-plans width zero = tt
  kept-plans width (suc d) =
      every-append (IsPlan (follows w)) _ _ (kept-plans width d) (sized-plans (follows w) (suc d) _ (level-plans (follows w) (same_packs w) (plan_cost w) width (suc d)))

  searched-stays : (turns width sizes : ℕ) → 2 * n ≤ turns → searched w turns width sizes ≡ searched w (2 * n) width sizes
  searched-stays turns width sizes l =
      let kept = kept_within (follows w) (same_packs w) (plan_cost w) width sizes in
      ap (λ plans. met_within (follows w) (same_packs w) (plan_cost w) width sizes ++ plans)
      (map-same (completed w turns) (completed w (2 * n)) (IsPlan (follows w)) kept (λ plan is. completed-stays turns plan l is) (kept-plans width sizes))

  pub chosen-stays : (turns width sizes : ℕ) → 2 * n ≤ turns → chosen_fed w turns width sizes ≡ chosen_fed w (2 * n) width sizes
  chosen-stays turns width sizes l =
      let plain = plain-stays w n two few turns l in
      let careful = careful-stays turns l in
      let rest = searched-stays turns width sizes l in
      (λ i. first_least (plan_cost w) [] (plain i ∷ careful i ∷ rest i))
