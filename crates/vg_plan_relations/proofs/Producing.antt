-- Each pack of the list of producers produces the operand, and each pack that does is in the list, once.
use Rattle.std.proofs.Common.{◌≡◌, ℕ, zero, suc, ◌+◌, ◌≤◌, Bool, true, false, List, [], ◌∷◌, ◌++◌, refl, sym, ◌∙◌, subst, inl, inr, arith}
use Rattle.std.specs.Prelude.{if◌then◌else◌, Option, Some, slice_get}
use Rattle.std.specs.List.{AllByRecursion}
use Rattle.std.proofs.lemmas.Bool.{cases_Bool}
use Rattle.vg_plans.specs.Members.{AllDiffer, Every, Has}
use Rattle.vg_plans.proofs.Lists.{every-append}
use Rattle.vg_plans.proofs.Members.{has-append, has-left, has-right}
use Rattle.vg_shapes.specs.declared.match_table.Match.{Match}
use Rattle.vg_shapes.specs.declared.operand.Operand.{Operand}
use Rattle.vg_shapes.specs.declared.pack.Pack.{Pack}
use Rattle.vg_shapes.specs.declared.pack.Pack.TheVariants.{Stores, Loads, Call}
use Rattle.vg_shapes.specs.declared.ssa.Ssa.{Ssa}
use Rattle.vg_shapes.specs.Description.{Description, IsPackable}
use Rattle.vg_shapes.specs.Matches.{AreMatches}
use Rattle.vg_kernel_plans.specs.Producers.{call_producer, call_producers, load_producer, producers}
use Rattle.vg_kernel_plans.specs.SameAs.{same_pack}
use Rattle.vg_kernel_plans.proofs.SameTests.{pack-is}
use Rattle.vg_kernel_plans.proofs.Tried.{if-has}
use Rattle.vg_plan_relations.specs.Laws.{ProducersAreListed}
use Rattle.vg_plan_relations.specs.Produces.{AreRising, Produces}
use Rattle.vg_plan_relations.proofs.Calling.{call-right, call-whole}
use Rattle.vg_plan_relations.proofs.Lists.{all-has, get-has}
use Rattle.vg_plan_relations.proofs.Loading.{load-right, load-whole}

module _ (ds : List Description) (matches : List Match) (ssa : Ssa) (o : Operand) where
  -- ---- the calls, by number

  -- a call of the list is that of one description
  calls-from : (n : ℕ) (es : List Description) (p : Pack) → Has p (call_producers ds matches ssa o n es)
      → (i : ℕ) × (e : Description) × (slice_get es i ≡ Some e) × Has p (call_producer ds matches ssa o (n + i) e)
  calls-from n [] p h = absurd h
  calls-from n (e ∷ es) p h =
      elim (has-append p (call_producer ds matches ssa o n e) (call_producers ds matches ssa o (suc n) es) h) [
        | inl l ↦
            let at : n ≡ n + 0 = omega arith in
            (zero, e, refl, subst (λ k. Has p (call_producer ds matches ssa o k e)) at l)
        | inr r ↦
            let k = calls-from (suc n) es p r in
            let at : suc n + k.0 ≡ n + suc k.0 = omega arith in
            (suc k.0, k.1, k.2, subst (λ m. Has p (call_producer ds matches ssa o m k.1)) at k.3)
      ]

  calls-have : (n : ℕ) (es : List Description) (i : ℕ) (e : Description) (p : Pack) → slice_get es i ≡ Some e
      → Has p (call_producer ds matches ssa o (n + i) e) → Has p (call_producers ds matches ssa o n es)
  calls-have n [] i e p at h = absurd (cc)
  calls-have n (x ∷ es) zero e p at h =
      let same : x ≡ e = cc in
      let z : n + 0 ≡ n = omega arith in
      has-left p (call_producer ds matches ssa o n x) (call_producers ds matches ssa o (suc n) es)
      (subst (λ y. Has p (call_producer ds matches ssa o n y)) (sym same) (subst (λ k. Has p (call_producer ds matches ssa o k e)) z h))
  calls-have n (x ∷ es) (suc i) e p at h =
      let z : n + suc i ≡ suc n + i = omega arith in
      has-right p (call_producer ds matches ssa o n x) (call_producers ds matches ssa o (suc n) es)
      (calls-have (suc n) es i e p at (subst (λ k. Has p (call_producer ds matches ssa o k e)) z h))

  -- ---- none stands twice

  -- a call of a description of this number or a greater one
  abbrev CallsFrom : ℕ → Pack → Type 0
  CallsFrom n p = (d : ℕ) × (lanes : List (Option ℕ)) × (Call d lanes ≡ p) × (n ≤ d)

  all-every : {X : Type 0} (P : X → Type 0) (xs : List X) → ((x : X) → Has x xs → P x) → Every P xs
  all-every P [] h = tt
  all-every P (x ∷ xs) h = (h x (inl refl), all-every P xs (λ y k. h y (inr k)))

  one-or-none : (b : Bool) (p : Pack) → AllDiffer same_pack (if b then p ∷ [] else [])
  one-or-none true p = (tt, tt)
  one-or-none false p = tt

  differ-append : (ps qs : List Pack) → AllDiffer same_pack ps → AllDiffer same_pack qs
      → ((p q : Pack) → Has p ps → Has q qs → same_pack p q ≡ false) → AllDiffer same_pack (ps ++ qs)
  differ-append [] qs a b f = b
  differ-append (p ∷ ps) qs a b f = (
    every-append (λ y. same_pack p y ≡ false) ps qs a.0 (all-every (λ y. same_pack p y ≡ false) qs (λ y k. f p y (inl refl) k)),
    differ-append ps qs a.1 b (λ x y h k. f x y (inr h) k),
  )

  call-from : (n : ℕ) (e : Description) (p : Pack) → Has p (call_producer ds matches ssa o n e)
      → (lanes : List (Option ℕ)) × (Call n lanes ≡ p)
  call-from n e p h = let k = if-has _ (Call n _) p h in (_, k.1)

  calls-number : (n : ℕ) (es : List Description) (p : Pack) → Has p (call_producers ds matches ssa o n es) → CallsFrom n p
  calls-number n es p h =
      let k = calls-from n es p h in
      let c = call-from (n + k.0) k.1 p k.3 in
      (n + k.0, c.0, c.1, omega arith)

  not-same : (p q : Pack) → (p ≡ q → ⊥) → same_pack p q ≡ false
  not-same p q f = elim (cases_Bool (same_pack p q)) [ inl t ↦ absurd (f (pack-is p q t)) | inr g ↦ g ]

  calls-differ : (n : ℕ) (es : List Description) → AllDiffer same_pack (call_producers ds matches ssa o n es)
  calls-differ n [] = tt
  calls-differ n (e ∷ es) =
      differ-append (call_producer ds matches ssa o n e) (call_producers ds matches ssa o (suc n) es) (one-or-none _ (Call n _)) (calls-differ (suc n) es)
      (λ p q h k. not-same p q (λ same.
      let a = call-from n e p h in
      let b = calls-number (suc n) es q k in
      let c : Call n a.0 ≡ Call b.0 b.1 = a.1 ∙ same ∙ sym b.2 in
      let d : n ≡ b.0 = cc in
      let less = b.3 in
      omega (arith, d, less)))

  producers-once : AllDiffer same_pack (producers ds matches ssa o)
  producers-once =
      differ-append (load_producer ssa o) (call_producers ds matches ssa o 0 ds) (one-or-none _ (Loads _)) (calls-differ 0 ds)
      (λ p q h k. not-same p q (λ same.
      let a = if-has _ (Loads _) p h in
      let b = calls-number 0 ds q k in
      let c : Loads _ ≡ Call b.0 b.1 = a.1 ∙ same ∙ sym b.2 in
      absurd (cc)))

  -- ---- the list

  pub listed-right : AllByRecursion IsPackable ds → AreMatches ds ssa matches → (p : Pack) → Has p (producers ds matches ssa o) → Produces ds matches ssa p o
  listed-right packable are p h = elim (has-append p (load_producer ssa o) (call_producers ds matches ssa o 0 ds) h) [
    | inl l ↦ load-right ds matches ssa o p l
    | inr r ↦
        let k = calls-from 0 ds p r in
        let z : 0 + k.0 ≡ k.0 = omega arith in
        call-right ds matches ssa o k.0 k.1 are k.2 (all-has IsPackable ds k.1 packable (get-has ds k.0 k.1 k.2)) p
        (subst (λ n. Has p (call_producer ds matches ssa o n k.1)) z k.3)
  ]

  pub listed-whole : AllByRecursion IsPackable ds → AreMatches ds ssa matches → AreRising o.slots → (p : Pack) → Produces ds matches ssa p o → Has p (producers ds matches ssa o)
  listed-whole packable are rise (Stores us) is = absurd is.pack
  listed-whole packable are rise (Loads us) is =
      has-left (Loads us) (load_producer ssa o) (call_producers ds matches ssa o 0 ds) (load-whole ds matches ssa o us rise is)
  listed-whole packable are rise (Call d lanes) is =
      let pack = is.pack in
      let e = pack.instance in
      let at = pack.listed in
      let z : d ≡ 0 + d = omega arith in
      let own = call-whole ds matches ssa o d e are at (all-has IsPackable ds e packable (get-has ds d e at)) lanes rise pack is pack.long in
      has-right (Call d lanes) (load_producer ssa o) (call_producers ds matches ssa o 0 ds)
      (calls-have 0 ds d e (Call d lanes) at (subst (λ n. Has (Call d lanes) (call_producer ds matches ssa o n e)) z own))

pub producers-listed : ProducersAreListed
producers-listed ds matches ssa o packable are rise = record {
  right = listed-right ds matches ssa o packable are;
  whole = listed-whole ds matches ssa o packable are rise;
  once = producers-once ds matches ssa o;
}
