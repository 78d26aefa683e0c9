-- Turns of the plain plan, and plans over other descriptions.
use Rattle.std.proofs.Common.{◌≡◌, ℕ, zero, suc, ◌-◌, ◌<◌, ◌≤◌, Bool, true, false, List, [], ◌∷◌, ◌++◌, length, refl, sym, ◌∙◌, ap, subst, inl, inr, arith, drop}
use Rattle.std.specs.Prelude.{◌&&◌, ◌||◌, not, find, filter, Option, Some, None}
use Rattle.std.specs.List.{list_any}
use Rattle.std.proofs.lemmas.Bool.{cases_Bool}
use Rattle.vg_kernel_plans.proofs.SameTests.{both-true}
use Rattle.vg_plans.specs.PlainPlan.{first_producer, is_settled, walk, with_groups}
use Rattle.vg_plans.specs.World.{World, is_held_back, is_empty, is_packed, left_after, has_no_cycle, stays_plan}
use Rattle.vg_kernel_plans.specs.Held.{holds}
use Rattle.vg_kernel_plans.specs.Packing.{packing, falling_units}
use Rattle.vg_kernel_plans.specs.Wants.{is_constant}
use Rattle.vg_shapes.specs.declared.match_table.Match.{Match}
use Rattle.vg_shapes.specs.declared.operand.Operand.{Operand}
use Rattle.vg_shapes.specs.declared.pack.Pack.{Pack}
use Rattle.vg_shapes.specs.declared.ssa.Ssa.{Ssa}
use Rattle.vg_shapes.specs.Description.{Description}
use Rattle.vg_shapes.specs.Pack.{units_of}
use Rattle.vg_packs.specs.Plain.{IsTurn}
use Rattle.vg_packs.specs.Walk.{IsFree}

none-left : {X : Type 0} (xs : List X) → xs ≡ drop 1 xs → xs ≡ []
none-left [] e = refl
none-left (x ∷ xs) e = let h : length (x ∷ xs) ≡ length xs = ap length e in absurd (omega (arith, h))

module _ (ds : List Description) (matches : List Match) (ssa : Ssa) (deps : List (ℕ × ℕ)) where
  abbrev full : World Pack Operand Operand
  full = packing ds matches ssa deps

  abbrev bare : World Pack Operand Operand
  bare = packing [] matches ssa deps

  left-same : (plan : List Pack) (n : ℕ) (left : List ℕ) → left_after full plan n left ≡ left_after bare plan n left
  left-same plan zero left = refl
  left-same plan (suc n) left = left-same plan n (filter (is_held_back full plan left) left)

  pub stays-any : (plan : List Pack) (p : Pack) → stays_plan full plan p ≡ stays_plan bare plan p
  stays-any plan p =
      ap (λ l. not (list_any (is_packed full plan) (units_of p)) && is_empty full l)
      (left-same (plan ++ p ∷ []) (length (falling_units ssa)) (falling_units ssa))

  pub find-any : (plan ps : List Pack) → find (stays_plan full plan) ps ≡ find (stays_plan bare plan) ps
  find-any plan [] = refl
  find-any plan (p ∷ ps) = rw (stays-any plan p, find-any plan ps) refl

  pub groups-any : (plan gs : List Pack) → with_groups full plan gs ≡ with_groups bare plan gs
  groups-any plan [] = refl
  groups-any plan (g ∷ gs) = rw (stays-any plan g, groups-any (plan ++ g ∷ []) gs, groups-any plan gs) refl

  pub turn-settled : (plan : List Pack) (o : Operand) (queue : List Operand) → is_settled full plan o ≡ true
      → IsTurn full plan (o ∷ queue) plan queue
  unfolding walk
  turn-settled plan o queue t n = rw t refl

  -- the test of the code
  pub settled-by : (plan seen : List Pack) (o : Operand) (b : Bool) → seen ≡ plan
      → b ≡ (list_any (λ p. holds ds ssa p o) seen || is_constant o) → is_settled full plan o ≡ b
  settled-by plan seen o b s h = ap (λ l. list_any (λ p. holds ds ssa p o) l || is_constant o) (sym s) ∙ sym h

  -- what was found among the producers of an operand, by what came of the calls
  pub found-first : (plan seen ps : List Pack) (o : Operand) (found : Option Pack) → seen ≡ plan
      → ps ≡ full.producers o → found ≡ find (stays_plan bare seen) ps → found ≡ first_producer full plan o
  found-first plan seen ps o found s p f =
      f ∙ ap (λ l. find (stays_plan bare l) ps) s ∙ ap (find (stays_plan bare plan)) p
      ∙ sym (find-any plan (full.producers o))

  pub turn-none : (plan : List Pack) (o : Operand) (queue : List Operand) (found : Option Pack)
      → is_settled full plan o ≡ false → found ≡ first_producer full plan o → found ≡ None
      → IsTurn full plan (o ∷ queue) plan queue
  unfolding walk
  turn-none plan o queue found s f e n =
      let g : first_producer full plan o ≡ None = sym f ∙ e in
      rw s (rw g refl)

  pub turn-some : (plan new_plan : List Pack) (o : Operand) (queue new_queue : List Operand) (found : Option Pack)
      (p : Pack) → is_settled full plan o ≡ false → found ≡ first_producer full plan o → found ≡ Some p
      → new_plan ≡ plan ++ p ∷ [] → new_queue ≡ queue ++ full.operands_of p
      → IsTurn full plan (o ∷ queue) new_plan new_queue
  unfolding walk
  turn-some plan new_plan o queue new_queue found p s f e np nq n =
      let g : first_producer full plan o ≡ Some p = sym f ∙ e in
      rw s (rw (g, np, nq) refl)

  found-stays : (plan ps : List Pack) (p : Pack) → find (stays_plan bare plan) ps ≡ Some p → stays_plan bare plan p ≡ true
  found-stays plan [] p e = absurd (cc)
  found-stays plan (q ∷ ps) p e = elim (cases_Bool (stays_plan bare plan q)) [
    | inl t ↦ let f : Some q ≡ Some p = rw t at e in let g : q ≡ p = cc in subst (λ x. stays_plan bare plan x ≡ true) g t
    | inr f ↦ found-stays plan ps p (rw f at e)
  ]

  pub stays-free : (plan : List Pack) (p : Pack) → stays_plan bare plan p ≡ true → IsFree matches ssa deps (plan ++ p ∷ [])
  stays-free plan p t =
      (both-true (not (list_any (is_packed bare plan) (units_of p))) (has_no_cycle bare (plan ++ p ∷ [])) t).1

  pub some-stays : (plan ps : List Pack) (found : Option Pack) (p : Pack) → found ≡ find (stays_plan bare plan) ps
      → found ≡ Some p → stays_plan bare plan p ≡ true
  some-stays plan ps found p f e = found-stays plan ps p (sym f ∙ e)

  -- ---- store groups

  pub group-pushed : (plan seen new : List Pack) (g : Pack) (b : Bool) → seen ≡ plan → b ≡ stays_plan bare seen g
      → b ≡ true → new ≡ plan ++ g ∷ [] → new ≡ with_groups bare plan (g ∷ [])
  group-pushed plan seen new g b s h t n =
      let e : stays_plan bare plan g ≡ true = ap (λ l. stays_plan bare l g) (sym s) ∙ sym h ∙ t in
      rw e n

  pub group-left : (plan seen : List Pack) (g : Pack) (b : Bool) → seen ≡ plan → b ≡ stays_plan bare seen g
      → b ≡ false → plan ≡ with_groups bare plan (g ∷ [])
  group-left plan seen g b s h f =
      let e : stays_plan bare plan g ≡ false = ap (λ l. stays_plan bare l g) (sym s) ∙ sym h ∙ f in
      rw e refl

  pub groups-step : (plan new rest : List Pack) (g : Pack) → new ≡ with_groups bare plan (g ∷ [])
      → with_groups bare new rest ≡ with_groups bare plan (g ∷ rest)
  groups-step plan new rest g n = elim (cases_Bool (stays_plan bare plan g)) [
    | inl t ↦ let e : new ≡ plan ++ g ∷ [] = rw t at n in rw t (ap (λ l. with_groups bare l rest) e)
    | inr f ↦ let e : new ≡ plan = rw f at n in rw f (ap (λ l. with_groups bare l rest) e)
  ]

  -- ---- the walk

  walk-none : (n : ℕ) (plan : List Pack) → walk full n plan [] ≡ plan
  unfolding walk
  walk-none zero plan = refl
  walk-none (suc n) plan = refl

  -- where nothing waits
  pub walk-ends : (n : ℕ) (plan whole : List Pack) (queue left : List Operand) → queue ≡ left → left ≡ drop 1 queue
      → walk full n plan queue ≡ whole → plan ≡ whole
  walk-ends n plan whole queue left e d h =
      sym (walk-none n plan) ∙ ap (walk full n plan) (sym (none-left queue (e ∙ d))) ∙ h

  -- where no turn is left
  pub walk-stops : (n : ℕ) (plan whole : List Pack) (queue : List Operand) → n ≤ 0 → walk full n plan queue ≡ whole
      → plan ≡ whole
  unfolding walk
  walk-stops zero plan whole queue l h = h
  walk-stops (suc n) plan whole queue l h = absurd (omega (arith, l))

  pub walk-goes : (n : ℕ) (plan new_plan whole : List Pack) (o : Operand) (queue left new_queue : List Operand)
      → 0 < n → queue ≡ o ∷ left → IsTurn full plan (o ∷ left) new_plan new_queue → walk full n plan queue ≡ whole
      → walk full (n - 1) new_plan new_queue ≡ whole
  walk-goes n plan new_plan whole o queue left new_queue l q t h =
      let e : suc (n - 1) ≡ n = omega (arith, l) in
      sym (t (n - 1)) ∙ ap (λ k. walk full k plan (o ∷ left)) e ∙ ap (walk full n plan) (sym q) ∙ h
