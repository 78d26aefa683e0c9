-- No unit is in two packs of a plan: so a value has one pack, and a plan has at most as many packs as there are units.
use Rattle.std.proofs.Common.{◌≡◌, ℕ, ◌≤◌, Bool, true, false, List, [], ◌∷◌, ◌++◌, length, refl, sym, ◌∙◌, ap, subst, inl, inr, arith, length-append}
use Rattle.std.specs.Prelude.{not, ◌&&◌}
use Rattle.std.specs.List.{list_any}
use Rattle.vg_plans.specs.Members.{Has}
use Rattle.vg_plans.specs.Crowded.{IsPlan, empty, more}
use Rattle.vg_plans.specs.World.{World, IsWorld, is_in, is_packed, stays_plan, has_no_cycle, tried, follows}
use Rattle.vg_plans.proofs.Lists.{none-found, every-has, has-append_left, has-append_right}
use Rattle.vg_plans.proofs.Members.{Includes, Unique, around, has-append, any-is, from-filter, has-left, has-right, unique-push}
use Rattle.vg_plans.proofs.Reach.{in-has}

-- a list without repeats is no longer than a list that has its members
pub unique-length : {X : Type 0} (xs ys : List X) → Unique xs → Includes xs ys → length xs ≤ length ys
unique-length [] ys u i = omega arith
unique-length (x ∷ xs) ys u i =
    let k = around x ys (i x (inl refl)) in
    let rest = unique-length xs (k.before ++ k.after) u.1 (λ y h. elim (has-append y k.before (x ∷ k.after) (subst (Has y) k.is (i y (inr h)))) [
      | inl l ↦ has-left y k.before k.after l
      | inr r ↦ elim r [ inl e ↦ absurd (u.0 (subst (λ z. Has z xs) (sym e) h)) | inr q ↦ has-right y k.before k.after q ]
    ]) in
    let a = ap length k.is in
    omega (arith, a, rest, length-append k.before (x ∷ k.after), length-append k.before k.after)

module _ {P O N : Type 0} (w : World P O N) (is : IsWorld w) where
  -- the pack has no unit of those before it
  abbrev Apart : List P → P → Type 0
  Apart plan p = (v : ℕ) → is_in v (w.units_of p) ≡ true → is_packed w plan v ≡ false

  both-true : (a b : Bool) → (a && b) ≡ true → (a ≡ true) × (b ≡ true)
  both-true true b e = (refl, e)
  both-true false b e = absurd (cc)

  not-false : (x : Bool) → not x ≡ true → x ≡ false
  not-false true e = absurd (cc)
  not-false false e = refl

  pub apart : (plan : List P) (p : P) → Has p (follows w plan) → Apart plan p
  apart plan p h v t =
      let k = both-true (not (list_any (is_packed w plan) (w.units_of p))) (has_no_cycle w (plan ++ p ∷ [])) (from-filter (stays_plan w plan) p (tried w plan) h).1 in
      every-has (λ u. is_packed w plan u ≡ false) v (w.units_of p) (none-found (is_packed w plan) (w.units_of p) (not-false (list_any (is_packed w plan) (w.units_of p)) k.0)) (in-has v (w.units_of p) t)

  -- a unit is in one pack alone
  pub one-pack : (plan : List P) → IsPlan (follows w) plan → (p q : P) (v : ℕ) → Has p plan → Has q plan → is_in v (w.units_of p) ≡ true → is_in v (w.units_of q) ≡ true → p ≡ q
  one-pack _ empty p q v hp hq t u = absurd hp
  one-pack _ (more plan r m h) p q v hp hq t u = elim (has-append p plan (r ∷ []) hp) [
    | inl lp ↦ elim (has-append q plan (r ∷ []) hq) [
      | inl lq ↦ one-pack plan m p q v lp lq t u
      | inr rq ↦ elim rq [ inl e ↦ absurd (clash plan r p v h lp t (subst (λ z. is_in v (w.units_of z) ≡ true) (sym e) u)) | inr n ↦ absurd n ]
    ]
    | inr rp ↦ elim rp [
      | inl e ↦ elim (has-append q plan (r ∷ []) hq) [
        | inl lq ↦ absurd (clash plan r q v h lq u (subst (λ z. is_in v (w.units_of z) ≡ true) (sym e) t))
        | inr rq ↦ elim rq [ inl f ↦ sym e ∙ f | inr n ↦ absurd n ]
      ]
      | inr n ↦ absurd n
    ]
  ]
    where
      clash : (plan : List P) (r p : P) (v : ℕ) → Has r (follows w plan) → Has p plan → is_in v (w.units_of p) ≡ true → is_in v (w.units_of r) ≡ true → ⊥
      clash plan r p v h lp t u =
          let f = apart plan r h v u in
          let g : is_packed w plan v ≡ true = any-is (λ z. is_in v (w.units_of z)) p plan lp t in
          cc

  -- a unit for each pack
  abbrev unit_in : (plan : List P) → IsPlan (follows w) plan → List ℕ
  unit_in _ empty = []
  unit_in _ (more plan p m h) = unit_in plan m ++ (is.has_unit plan p (from-filter (stays_plan w plan) p (tried w plan) h).0).0 ∷ []

  units-packed : (plan : List P) (m : IsPlan (follows w) plan) → (v : ℕ) → Has v (unit_in plan m) → (p : P) × Has p plan × (is_in v (w.units_of p) ≡ true)
  units-packed _ empty v k = absurd k
  units-packed _ (more plan p m h) v k = elim (has-append v (unit_in plan m) ((is.has_unit plan p (from-filter (stays_plan w plan) p (tried w plan) h).0).0 ∷ []) k) [
    | inl l ↦ let y = units-packed plan m v l in (y.0, has-append_left y.0 plan (p ∷ []) y.1, y.2)
    | inr r ↦ elim r [
      | inl e ↦ (p, has-append_right p plan (p ∷ []) (inl refl), subst (λ z. is_in z (w.units_of p) ≡ true) e (is.has_unit plan p (from-filter (stays_plan w plan) p (tried w plan) h).0).1)
      | inr n ↦ absurd n
    ]
  ]

  units-unique : (plan : List P) (m : IsPlan (follows w) plan) → Unique (unit_in plan m)
  units-unique _ empty = tt
  units-unique _ (more plan p m h) =
      let one = is.has_unit plan p (from-filter (stays_plan w plan) p (tried w plan) h).0 in
      unique-push one.0 (unit_in plan m) (units-unique plan m) (λ k.
      let y = units-packed plan m one.0 k in
      let f = apart plan p h one.0 one.1 in
      let g : is_packed w plan one.0 ≡ true = any-is (λ z. is_in one.0 (w.units_of z)) y.0 plan y.1 y.2 in
      absurd (cc))

  units-length : (plan : List P) (m : IsPlan (follows w) plan) → length (unit_in plan m) ≡ length plan
  units-length _ empty = refl
  units-length _ (more plan p m h) =
      let one = is.has_unit plan p (from-filter (stays_plan w plan) p (tried w plan) h).0 in
      omega (arith, length-append (unit_in plan m) (one.0 ∷ []), length-append plan (p ∷ []), units-length plan m)

  -- the units of packs are units
  pub at-most-units : ((p : P) (v : ℕ) (plan : List P) → Has p (tried w plan) → is_in v (w.units_of p) ≡ true → Has v w.units) →
      (plan : List P) (m : IsPlan (follows w) plan) → length plan ≤ length w.units
  at-most-units inside plan m =
      let i : Includes (unit_in plan m) w.units = inside-all inside plan m in
      omega (arith, unique-length (unit_in plan m) w.units (units-unique plan m) i, units-length plan m)
    where
      inside-all : ((p : P) (v : ℕ) (plan : List P) → Has p (tried w plan) → is_in v (w.units_of p) ≡ true → Has v w.units) → (plan : List P) (m : IsPlan (follows w) plan) → Includes (unit_in plan m) w.units
      inside-all inside _ empty = λ v k. absurd k
      inside-all inside _ (more plan p m h) = λ v k. elim (has-append v (unit_in plan m) ((is.has_unit plan p (from-filter (stays_plan w plan) p (tried w plan) h).0).0 ∷ []) k) [
        | inl l ↦ inside-all inside plan m v l
        | inr r ↦ elim r [
          | inl e ↦ subst (λ z. Has z w.units) e (inside p (is.has_unit plan p (from-filter (stays_plan w plan) p (tried w plan) h).0).0 plan (from-filter (stays_plan w plan) p (tried w plan) h).0 (is.has_unit plan p (from-filter (stays_plan w plan) p (tried w plan) h).0).1)
          | inr n ↦ absurd n
        ]
      ]
