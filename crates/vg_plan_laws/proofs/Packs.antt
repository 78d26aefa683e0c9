-- The packs of a plan are packs of the kernel: of units, none of which stands in them twice.
use Rattle.std.proofs.Common.{◌≡◌, ℕ, zero, suc, ◌+◌, ◌<◌, ◌≤◌, Bool, true, false, List, [], ◌∷◌, ◌++◌, Option, Some, None, refl, sym, ap, subst, ◌∙◌, inl, inr, arith}
use Rattle.std.specs.Prelude.{◌==◌, ◌||◌, not, is_some, nat_eq}
use Rattle.std.specs.List.{AllByRecursion, filter_map, list_any}
use Rattle.std.proofs.lemmas.Bool.{cases_Bool, eqb-true, not-true}
use Rattle.vg_base.specs.Trap.{◌>>=◌}
use Rattle.vg_plans.specs.Crowded.{empty, more}
use Rattle.vg_plans.specs.Members.{Every, Has}
use Rattle.vg_plans.specs.World.{has_no_cycle, is_in, is_packed, stays_plan, tried}
use Rattle.vg_plans.proofs.Members.{any-is, from-filter, Unique}
use Rattle.vg_shapes.specs.declared.match_table.Match.{Match}
use Rattle.vg_shapes.specs.declared.pack.Pack.{Pack}
use Rattle.vg_shapes.specs.declared.pack.Pack.TheVariants.{Stores, Loads, Call}
use Rattle.vg_shapes.specs.declared.ssa.Ssa.{Ssa}
use Rattle.vg_shapes.specs.Description.{Description}
use Rattle.vg_shapes.specs.Layout.{access_at, access_of}
use Rattle.vg_shapes.specs.Matches.{AreMatches, IsMatch}
use Rattle.vg_shapes.specs.Nodes.{ArePacks, CallsOperations, packed}
use Rattle.vg_shapes.specs.Order.{count_of, one_if}
use Rattle.vg_shapes.specs.Pack.{match_at, units_of}
use Rattle.vg_shapes.specs.Sound.{IsSound}
use Rattle.vg_shapes.specs.Units.{is_unit}
use Rattle.vg_kernel_plans.specs.Fed.{IsFedPlanFor, fed, packing_by}
use Rattle.vg_kernel_plans.specs.Laws.{MatchUnits}
use Rattle.vg_kernel_plans.specs.Producers.{are_matched}
use Rattle.vg_kernel_plans.proofs.Inside.{tried-inside_by}
use Rattle.vg_kernel_plans.proofs.SameTests.{both-true, eq-itself}
use Rattle.vg_plan_relations.proofs.Fitting.{found-fit}
use Rattle.vg_plan_laws.specs.Made.{IsMade}
use Rattle.vg_plan_laws.proofs.Fitted.{fitted}
use Rattle.vg_plan_laws.proofs.Made.{IsSingle, plan-made, tried-single}

-- ---- counts

-- what counts one of a list is among it
has-counted : (v : ℕ) (vs : List ℕ) → 0 < count_of v vs → Has v vs
has-counted v [] h = absurd (omega arith)
has-counted v (u ∷ vs) h = elim (cases_Bool (v == u)) [
  | inl t ↦ inl (sym (eqb-true v u t))
  | inr f ↦ (let none : one_if (v == u) ≡ 0 = ap one_if f in inr (has-counted v vs (omega arith)))
]

none-counted : (v : ℕ) (vs : List ℕ) → (Has v vs → ⊥) → count_of v vs ≡ 0
none-counted v vs out = by (count_of v vs) refl
  where
    by : (n : ℕ) → count_of v vs ≡ n → n ≡ 0
    by zero e = refl
    by (suc n) e = absurd (out (has-counted v vs (omega arith)))

one-most : (b : Bool) → one_if b ≤ 1
one-most true = omega arith
one-most false = omega arith

once-counted : (v : ℕ) (vs : List ℕ) → Unique vs → count_of v vs ≤ 1
once-counted v [] h = omega arith
once-counted v (u ∷ vs) h = elim (cases_Bool (v == u)) [
  | inl t ↦
      let none = none-counted v vs (λ has. h.0 (subst (λ x. Has x vs) (eqb-true v u t) has)) in
      let one = one-most (v == u) in
      omega arith
  | inr f ↦
      (let none : one_if (v == u)
      ≡ 0 = ap one_if f in let rest = once-counted v vs h.1 in omega arith)
]

count-append : (v : ℕ) (us vs : List ℕ) → count_of v (us ++ vs) ≡ count_of v us + count_of v vs
count-append v [] vs = omega arith
count-append v (u ∷ us) vs = let rest = count-append v us vs in omega arith

packed-push : (v : ℕ) (plan : List Pack) (p : Pack)
    → count_of v (packed (plan ++ p ∷ [])) ≡ count_of v (packed plan) + count_of v (units_of p)
packed-push v [] p =
    count-append v (units_of p) [] ∙
    (let none : count_of v (units_of p) + 0 ≡ 0 + count_of v (units_of p) = omega arith in none)
packed-push v (q ∷ plan) p =
    let left = count-append v (units_of q) (packed (plan ++ p ∷ [])) in
    let right = count-append v (units_of q) (packed plan) in
    let rest = packed-push v plan p in
    omega arith

-- ---- units of packs

-- a unit that is in no pack of a plan does not stand in them
outside : (v : ℕ) (plan : List Pack) → list_any (λ p. is_in v (units_of p)) plan ≡ false
    → count_of v (packed plan) ≡ 0
outside v [] e = refl
outside v (p ∷ plan) e =
    let b = neither (is_in v (units_of p)) (list_any (λ p. is_in v (units_of p)) plan) e in
    let first = none-counted v (units_of p) (λ has. clash (units_of p) has b.0) in
    let split = count-append v (units_of p) (packed plan) in
    let rest = outside v plan b.1 in
    omega arith
  where
    neither : (a b : Bool) → (a || b) ≡ false → (a ≡ false) × (b ≡ false)
    neither true b e = absurd (cc)
    neither false b e = (refl, e)

    clash : (vs : List ℕ) → Has v vs → is_in v vs ≡ false → ⊥
    clash vs has f = (let t = any-is (nat_eq v) v vs has (eq-itself v) in absurd (cc))

-- the matches of a sound kernel are those of units
pub match-units : (ds : List Description) (matches : List Match) (ssa : Ssa) → IsSound ssa
    → AreMatches ds ssa matches → MatchUnits ssa matches
match-units ds matches ssa sound are = from matches are.right
  where
    from : (ms : List Match) → AllByRecursion (IsMatch ds ssa) ms → MatchUnits ssa ms
    from [] h = tt
    from (m ∷ ms) h =
        let is = h.0 in
        let f = fitted ssa is.term m.value m.bound sound is.fits in
        (ap is_some f.at, from ms h.1)

-- ---- plans

stay-once : (v a b : ℕ) (u : Bool) → a ≤ one_if u → b ≤ 1 → (0 < b → a ≡ 0) → (0 < b → u ≡ true)
    → a + b ≤ one_if u
stay-once v a zero u low one apart is = omega arith
stay-once v a (suc b) u low one apart is =
    let none = apart (omega arith) in
    let unit : one_if u ≡ 1 = ap one_if (is (omega arith)) in
    omega arith

module _ (ds : List Description) (matches : List Match) (ssa : Ssa) (deps : List (ℕ × ℕ))
    (sound : IsSound ssa) (are : AreMatches ds ssa matches) where
  packed-once : (plan : List Pack) → IsFedPlanFor ds matches ssa deps plan → (v : ℕ)
      → count_of v (packed plan) ≤ one_if (is_unit ssa v)
  packed-once _ empty v = omega arith
  packed-once _ (more plan p is has) v =
      let w = packing_by fed ds matches ssa deps in
      let k = from-filter (stays_plan w plan) p (tried w plan) has in
      let new =
      both-true (not (list_any (is_packed w plan) (units_of p)))
      (has_no_cycle w (plan ++ p ∷ [])) k.1 in
      let single = tried-single fed ds matches ssa deps plan p k.0 in
      let split = packed-push v plan p in
      let whole =
      stay-once v (count_of v (packed plan)) (count_of v (units_of p)) (is_unit ssa v)
      (packed-once plan is v)
      (once-counted v (units_of p) single.once)
      (λ some. outside v plan (not-any (is_packed w plan) (units_of p) v (not-true _ new.0)
      (has-counted v (units_of p) some)))
      (λ some. tried-inside_by fed ds matches ssa deps (match-units ds matches ssa sound are) plan p k.0 v
      (has-counted v (units_of p) some))
      in
      omega arith
    where
      not-any : (test : ℕ → Bool) (vs : List ℕ) (v : ℕ) → list_any test vs ≡ false → Has v vs
          → test v ≡ false
      not-any test vs v f has = elim (cases_Bool (test v)) [
        | inl t ↦ (let any = any-is test v vs has t in absurd (cc))
        | inr n ↦ n
      ]

-- the lanes of a matched call are operations
matched-operations : (ds : List Description) (matches : List Match) (ssa : Ssa) (d n : ℕ)
    (lanes : List (Option ℕ)) → IsSound ssa → AreMatches ds ssa matches
    → are_matched matches d n lanes ≡ true
    → AllByRecursion (λ v. access_at ssa v ≡ None) (filter_map (λ v. v) lanes)
matched-operations ds matches ssa d n [] sound are t = tt
matched-operations ds matches ssa d n (None ∷ lanes) sound are t =
    matched-operations ds matches ssa d (suc n) lanes sound are t
matched-operations ds matches ssa d n (Some v ∷ lanes) sound are t =
    let both =
    both-true (is_some (match_at matches d n v)) (are_matched matches d (suc n) lanes) t in
    let f = found-fit ds matches ssa d n v are both.0 in
    let k = fitted ssa f.term v (f.found).bound sound f.fits in (
      ap (λ o. o >>= access_of) k.at,
      matched-operations ds matches ssa d
          (suc n) lanes sound are both.1,
    )

calls-operations : (ds : List Description) (matches : List Match) (ssa : Ssa) (p : Pack)
    → IsSound ssa → AreMatches ds ssa matches
    → IsMade ds matches ssa p → CallsOperations ssa p
calls-operations ds matches ssa (Stores us) sound are made = tt
calls-operations ds matches ssa (Loads us) sound are made = tt
calls-operations ds matches ssa (Call d lanes) sound are made =
    matched-operations ds matches ssa d 0 lanes sound are made.matched

pub all-each : {X : Type 0} (P Q : X → Type 0) → ((x : X) → P x → Q x) → (xs : List X) → Every P xs
    → AllByRecursion Q xs
all-each P Q f [] h = tt
all-each P Q f (x ∷ xs) h = (f x h.0, all-each P Q f xs h.1)

pub plan-packs : (ds : List Description) (matches : List Match) (ssa : Ssa) (deps : List (ℕ × ℕ))
    (plan : List Pack) → IsSound ssa → AreMatches ds ssa matches
    → IsFedPlanFor ds matches ssa deps plan → ArePacks ssa plan
plan-packs ds matches ssa deps plan sound are is = record {
  once = packed-once ds matches ssa deps sound are plan is;
  calls =
      all-each (IsSingle ds matches ssa) (CallsOperations ssa)
      (λ p s. calls-operations ds matches ssa p sound are s.made) plan
      (plan-made ds matches ssa deps plan is);
}
