-- Plans that are completed, by what came of the calls.
use Rattle.std.proofs.Common.{◌≡◌, ℕ, zero, suc, ◌<◌, true, false, List, [], ◌∷◌, ◌++◌, take, length, get_or, refl, sym, ◌∙◌, ap, subst, arith, append_assoc}
use Rattle.std.specs.Prelude.{flat_map}
use Rattle.vg_kernel_plans.specs.declared.choice.Choice.{Choice}
use Rattle.vg_kernel_plans.specs.Fed.{IsPlanBy, feeders_by, groups_by, packing_by}
use Rattle.vg_kernel_plans.specs.Packing.{packing}
use Rattle.vg_plans.specs.Completed.{completed, fed_for, fed_for_all, produced}
use Rattle.vg_plans.specs.Crowded.{empty, more}
use Rattle.vg_plans.specs.PlainPlan.{is_settled, plain_plan, walk, with_groups}
use Rattle.vg_plans.specs.World.{World, stays_plan, tried}
use Rattle.vg_plans.proofs.Members.{from-filter}
use Rattle.vg_plans.proofs.Trying.{groups-other, stays-other, walk-other}
use Rattle.vg_shapes.specs.declared.match_table.Match.{Match}
use Rattle.vg_shapes.specs.declared.operand.Operand.{Operand}
use Rattle.vg_shapes.specs.declared.pack.Pack.{Pack}
use Rattle.vg_shapes.specs.declared.ssa.Ssa.{Ssa}
use Rattle.vg_shapes.specs.Description.{Description}
use Rattle.vg_packs.specs.Completing.{StayInTurn}
use Rattle.vg_packs.specs.Plain.{plain_among}
use Rattle.vg_packs.proofs.Turns.{groups-any, stays-any}

module _ (c : Choice) (ds : List Description) (matches : List Match) (ssa : Ssa) (deps : List (ℕ × ℕ)) where
  abbrev chosen : World Pack Operand Operand
  chosen = packing_by c ds matches ssa deps

  abbrev full : World Pack Operand Operand
  full = packing ds matches ssa deps

  abbrev bare : World Pack Operand Operand
  bare = packing [] matches ssa deps

  -- whether a plan stays one does not go by what is tried
  pub stays-by : (plan : List Pack) (p : Pack) → stays_plan chosen plan p ≡ stays_plan bare plan p
  stays-by plan p = stays-other full (groups_by c ssa) (feeders_by c ssa) plan p ∙ stays-any ds matches ssa deps plan p

  pub groups-by : (plan gs : List Pack) → with_groups chosen plan gs ≡ with_groups bare plan gs
  groups-by plan gs = groups-other full (groups_by c ssa) (feeders_by c ssa) plan gs ∙ groups-any ds matches ssa deps plan gs

  pub walk-by : (turns : ℕ) (plan : List Pack) (queue : List Operand) → walk chosen turns plan queue ≡ walk full turns plan queue
  walk-by turns plan queue = walk-other full (groups_by c ssa) (feeders_by c ssa) turns plan queue

  -- the plain plan among groups, by the groups that are pushed
  pub among : (turns : ℕ) (groups start pushed grown : List Pack) → start ≡ [] → pushed ≡ with_groups bare start groups
      → grown ≡ produced full turns pushed → grown ≡ plain_among full turns groups
  among turns groups start pushed grown s p g =
      g ∙ ap (produced full turns) (p ∙ ap (λ plan. with_groups bare plan groups) s ∙ sym (groups-any ds matches ssa deps [] groups))

  pub plain-by : (turns : ℕ) (groups plan : List Pack) → groups ≡ groups_by c ssa → plan ≡ plain_among full turns groups
      → plan ≡ plain_plan chosen turns
  plain-by turns groups plan g p =
      let start = with_groups full [] (groups_by c ssa) in
      let same : with_groups chosen [] (groups_by c ssa) ≡ start = groups-other full (groups_by c ssa) (feeders_by c ssa) [] (groups_by c ssa) in
      p ∙ ap (plain_among full turns) g
      ∙ sym (walk-by turns start (flat_map full.operands_of start))
      ∙ ap (λ plan. walk chosen turns plan (flat_map full.operands_of plan)) (sym same)

  -- ---- what feeds

  pub not-fed : (plan : List Pack) (o : Operand) → is_settled full plan o ≡ true → plan ≡ fed_for chosen plan o
  not-fed plan o t = rw t refl

  pub is-fed : (plan new feeders : List Pack) (o : Operand) → is_settled full plan o ≡ false → feeders ≡ feeders_by c ssa o
      → new ≡ with_groups bare plan feeders → new ≡ fed_for chosen plan o
  is-fed plan new feeders o f e n =
      let g : new ≡ with_groups chosen plan (feeders_by c ssa o) = n ∙ ap (with_groups bare plan) e ∙ sym (groups-by plan (feeders_by c ssa o)) in
      rw f g

  pub fed-more : (plan new : List Pack) (o : Operand) (os : List Operand) → new ≡ fed_for chosen plan o
      → fed_for_all chosen new os ≡ fed_for_all chosen plan (o ∷ os)
  fed-more plan new o os e = ap (λ p. fed_for_all chosen p os) e

  pub completed-by : (turns : ℕ) (plan grown whole : List Pack) (queue : List Operand) → grown ≡ produced full turns plan
      → queue ≡ flat_map full.operands_of grown → whole ≡ fed_for_all chosen grown queue → whole ≡ completed chosen turns plan
  completed-by turns plan grown whole queue g q w =
      let e : grown ≡ produced chosen turns plan = g ∙ sym (walk-by turns plan (flat_map full.operands_of plan)) in
      w ∙ ap (fed_for_all chosen grown) q ∙ ap (λ p. fed_for_all chosen p (flat_map full.operands_of p)) e

  -- ---- plans that grow again

  plan-stays : (plan : List Pack) (p : Pack) → (done : List Pack) (ps : List Pack) → done ++ ps ≡ plan → StayInTurn bare done ps
      → stays_plan bare plan p ≡ true → StayInTurn bare done (ps ++ p ∷ [])
  plan-stays plan p done [] e h t = (subst (λ q. stays_plan bare q p ≡ true) (sym e ∙ append-none done) t, tt)
    where
      append-none : (xs : List Pack) → xs ++ [] ≡ xs
      append-none [] = refl
      append-none (x ∷ xs) = ap (λ ys. x ∷ ys) (append-none xs)
  plan-stays plan p done (q ∷ ps) e h t = (h.0, plan-stays plan p (done ++ q ∷ []) ps (append_assoc done (q ∷ []) ps ∙ e) h.1 t)

  pub in-turn : (plan : List Pack) → IsPlanBy c ds matches ssa deps plan → StayInTurn bare [] plan
  in-turn _ empty = tt
  in-turn _ (more plan p m h) =
      let k = from-filter (stays_plan chosen plan) p (tried chosen plan) h in
      plan-stays plan p [] plan refl (in-turn plan m) (sym (stays-by plan p) ∙ k.1)

-- the next pack stays
pub next-stays : (w : World Pack Operand Operand) (done : List Pack) (ps : List Pack) (k : ℕ) (d : Pack) → k < length ps
    → StayInTurn w done ps → stays_plan w (done ++ take k ps) (get_or ps k d) ≡ true
next-stays w done [] k d l h = absurd (omega (arith, l))
next-stays w done (p ∷ ps) zero d l h = subst (λ q. stays_plan w q p ≡ true) (sym (append-none done)) h.0
  where
    append-none : (xs : List Pack) → xs ++ [] ≡ xs
    append-none [] = refl
    append-none (x ∷ xs) = ap (λ ys. x ∷ ys) (append-none xs)
next-stays w done (p ∷ ps) (suc k) d l h =
    subst (λ q. stays_plan w q (get_or ps k d) ≡ true) (append_assoc done (p ∷ []) (take k ps))
    (next-stays w (done ++ p ∷ []) ps k d (omega (arith, l)) h.1)
