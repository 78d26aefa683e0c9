-- A pack is among those that follow a plan where it is tried and the plan stays one with it.
use Rattle.std.proofs.Common.{◌≡◌, ℕ, Bool, true, false, List, [], ◌∷◌, refl, sym, ◌∙◌, ap, subst, inl, inr, IfOk, Result, Ok, Err}
use Rattle.std.specs.Prelude.{◌&&◌, ◌↔◌, IsTrue, filter}
use Rattle.std.specs.List.{list_any}
use Rattle.std.proofs.lemmas.Bool.{cases_Bool}
use Rattle.vg_kernel_plans.proofs.SameTests.{pack-is, pack-itself}
use Rattle.vg_kernel_plans.specs.Packing.{packing}
use Rattle.vg_kernel_plans.specs.SameAs.{same_pack}
use Rattle.vg_plans.specs.Members.{Has}
use Rattle.vg_plans.specs.World.{World, follows, has_pack, stays_plan, tried}
use Rattle.vg_plans.proofs.Members.{any-found, any-is}
use Rattle.vg_shapes.specs.declared.match_table.Match.{Match}
use Rattle.vg_shapes.specs.declared.operand.Operand.{Operand}
use Rattle.vg_shapes.specs.declared.pack.Pack.{Pack}
use Rattle.vg_shapes.specs.declared.ssa.Ssa.{Ssa}
use Rattle.vg_shapes.specs.Description.{Description}
use Rattle.vg_packs.proofs.Turns.{stays-any}

and-false : (b : Bool) → (b && false) ≡ false
and-false true = refl
and-false false = refl

and-true : (b : Bool) → (b && true) ≡ b
and-true true = refl
and-true false = refl

kept-any : (test : Pack → Bool) (p : Pack) (ps : List Pack)
    → list_any (same_pack p) (filter test ps) ≡ (list_any (same_pack p) ps && test p)
kept-any test p [] = refl
kept-any test p (q ∷ ps) = elim (cases_Bool (same_pack p q)) [
  | inl t ↦
      let e : test p ≡ test q = ap test (pack-is p q t) in
      elim (cases_Bool (test q)) [
        | inl y ↦ rw (y, t) (sym (e ∙ y))
        | inr n ↦
            let none : test p ≡ false = e ∙ n in
            rw (n, t) (kept-any test p ps ∙ ap (λ b. list_any (same_pack p) ps && b) none
            ∙ and-false (list_any (same_pack p) ps) ∙ sym none)
      ]
  | inr f ↦ elim (cases_Bool (test q)) [
    | inl y ↦ rw (y, f) (kept-any test p ps)
    | inr n ↦ rw (n, f) (kept-any test p ps)
  ]
]

module _ (ds : List Description) (matches : List Match) (ssa : Ssa) (deps : List (ℕ × ℕ)) where
  abbrev world : World Pack Operand Operand
  world = packing ds matches ssa deps

  following : (plan seen packs : List Pack) (p : Pack) (b : Bool) → seen ≡ packs → packs ≡ tried world plan
      → b ≡ list_any (same_pack p) seen → has_pack world (follows world plan) p ≡ (b && stays_plan world plan p)
  following plan seen packs p b s t h =
      kept-any (stays_plan world plan) p (tried world plan)
      ∙ ap (λ c. c && stays_plan world plan p) (ap (list_any (same_pack p)) (sym (s ∙ t)) ∙ sym h)

  pub not-tried : (plan seen packs : List Pack) (p : Pack) (b : Bool) → seen ≡ packs → packs ≡ tried world plan
      → b ≡ list_any (same_pack p) seen → b ≡ false → false ≡ has_pack world (follows world plan) p
  not-tried plan seen packs p b s t h f =
      sym (following plan seen packs p b s t h ∙ ap (λ c. c && stays_plan world plan p) f)

  pub if-tried : {E : Type 0} (result : Result Bool E) (plan seen packs : List Pack) (p : Pack) (b : Bool)
      → seen ≡ packs → packs ≡ tried world plan → b ≡ list_any (same_pack p) seen → b ≡ true
      → IfOk result (λ r. r ≡ stays_plan (packing [] matches ssa deps) plan p)
      → IfOk result (λ r. r ≡ has_pack world (follows world plan) p)
  if-tried (Ok r) plan seen packs p b s t h y k =
      k ∙ sym (stays-any ds matches ssa deps plan p)
      ∙ sym (following plan seen packs p b s t h ∙ ap (λ c. c && stays_plan world plan p) y)
  if-tried (Err x) plan seen packs p b s t h y k = k

  pub has-member : (plan : List Pack) (p : Pack) (b : Bool) → b ≡ has_pack world (follows world plan) p
      → IsTrue b ↔ Has p (follows world plan)
  has-member plan p b h = (
    λ t.
        let k = any-found (same_pack p) (follows world plan) (sym h ∙ t) in
        subst (λ q. Has q (follows world plan)) (sym (pack-is p k.0 k.2)) k.1,
    λ m. h ∙ any-is (same_pack p) p (follows world plan) m (pack-itself p),
  )

  pub if-member : {E : Type 0} (result : Result Bool E) (plan : List Pack) (p : Pack)
      → IfOk result (λ b. b ≡ has_pack world (follows world plan) p)
      → IfOk result (λ b. IsTrue b ↔ Has p (follows world plan))
  if-member (Ok b) plan p h = has-member plan p b h
  if-member (Err x) plan p h = h
