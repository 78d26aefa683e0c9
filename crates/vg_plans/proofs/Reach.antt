-- A pack after a plan closes a cycle exactly where it reaches itself.
use Rattle.std.proofs.Common.{◌≡◌, ℕ, zero, suc, ◌<◌, ◌≤◌, ◌⊎◌, Bool, true, false, List, [], ◌∷◌, ◌++◌, length, refl, sym, ◌∙◌, ap, subst, inl, inr, arith}
use Rattle.std.specs.Prelude.{◌||◌, if◌then◌else◌, filter, nat_eq}
use Rattle.std.specs.List.{list_any}
use Rattle.std.proofs.lemmas.Bool.{cases_Bool}
use Rattle.std.proofs.lemmas.Bool.Decides.{nat_tests}
use Rattle.vg_plans.specs.Members.{Has, Every}
use Rattle.vg_plans.specs.World.{World, is_in, is_packed, needs, is_held_back, left_after, is_empty, has_no_cycle}
use Rattle.vg_plans.specs.Cycle.{IsAway, Reaches, there, down, IsNew}
use Rattle.vg_plans.proofs.Lists.{none-found, every-has}
use Rattle.vg_plans.proofs.Members.{Includes, has-append, from-flat_map, any-found, any-is, has-left, has-right, has-filter, from-filter, has-flat}

pub in-has : (v : ℕ) (vs : List ℕ) → is_in v vs ≡ true → Has v vs
in-has v vs t = let k = any-found (nat_eq v) vs t in let e : k.0 ≡ v = grind (arith, nat_tests, k.2) in subst (λ x. Has x vs) e k.1

pub has-in : (v : ℕ) (vs : List ℕ) → Has v vs → is_in v vs ≡ true
has-in v vs h = any-is (nat_eq v) v vs h (grind (arith, nat_tests))

filter-shorter : {X : Type 0} (test : X → Bool) (xs : List X) → (length (filter test xs) < length xs) ⊎ Every (λ x. test x ≡ true) xs
filter-shorter test [] = inr tt
filter-shorter test (x ∷ xs) = elim (cases_Bool (test x)) [
  | inl t ↦ rw t (elim (filter-shorter test xs) [ inl l ↦ inl (omega arith) | inr a ↦ inr (refl, a) ])
  | inr f ↦ rw f (inl (omega (arith, filter-at-most test xs)))
]
  where
    filter-at-most : {X : Type 0} (test : X → Bool) (xs : List X) → length (filter test xs) ≤ length xs
    filter-at-most test [] = omega arith
    filter-at-most test (x ∷ xs) = elim (cases_Bool (test x)) [
      | inl t ↦ rw t (let h = filter-at-most test xs in omega arith)
      | inr f ↦ rw f (let h = filter-at-most test xs in omega arith)
    ]

filter-all : {X : Type 0} (test : X → Bool) (xs : List X) → Every (λ x. test x ≡ true) xs → filter test xs ≡ xs
filter-all test [] a = refl
filter-all test (x ∷ xs) a = let t = a.0 in rw t (ap (λ l. x ∷ l) (filter-all test xs a.1))

module _ {P O N : Type 0} (w : World P O N) where
  -- each of these is held back by one of them
  abbrev HoldEachOther : List P → List ℕ → Type 0
  HoldEachOther plan vs = (v : ℕ) → Has v vs → is_held_back w plan vs v ≡ true

  held-more : (plan : List P) (vs us : List ℕ) (v : ℕ) → Includes vs us → is_held_back w plan vs v ≡ true → is_held_back w plan us v ≡ true
  held-more plan vs us v i t = let k = any-found (λ x. is_in x vs) (needs w plan v) t in any-is (λ x. is_in x us) k.0 (needs w plan v) k.1 (has-in k.0 us (i k.0 (in-has k.0 vs k.2)))

  -- those that hold each other stay
  survive : (plan : List P) (vs : List ℕ) → HoldEachOther plan vs → (rounds : ℕ) (left : List ℕ) → Includes vs left → Includes vs (left_after w plan rounds left)
  survive plan vs h zero left i = i
  survive plan vs h (suc rounds) left i = survive plan vs h rounds (filter (is_held_back w plan left) left) (λ v k. has-filter (is_held_back w plan left) v left (i v k) (held-more plan vs left v i (h v k)))

  -- what is left holds each other
  stay-all : (plan : List P) (rounds : ℕ) (left : List ℕ) → Every (λ v. is_held_back w plan left v ≡ true) left → left_after w plan rounds left ≡ left
  stay-all plan zero left a = refl
  stay-all plan (suc rounds) left a = let e = filter-all (is_held_back w plan left) left a in ap (left_after w plan rounds) e ∙ stay-all plan rounds left a

  left-holds : (plan : List P) (rounds : ℕ) (left : List ℕ) → length left ≤ rounds → HoldEachOther plan (left_after w plan rounds left)
  left-holds plan zero [] le = λ v h. absurd h
  left-holds plan zero (x ∷ left) le = absurd (omega arith)
  left-holds plan (suc rounds) left le = elim (filter-shorter (is_held_back w plan left) left) [
    | inl l ↦ left-holds plan rounds (filter (is_held_back w plan left) left) (omega arith)
    | inr a ↦ subst (HoldEachOther plan) (sym (stay-all plan (suc rounds) left a)) (λ v h. every-has (λ v. is_held_back w plan left v ≡ true) v left a h)
  ]

  left-inside : (plan : List P) (rounds : ℕ) (left : List ℕ) → Includes (left_after w plan rounds left) left
  left-inside plan zero left = λ v h. h
  left-inside plan (suc rounds) left = λ v h. (from-filter (is_held_back w plan left) v left (left-inside plan rounds (filter (is_held_back w plan left) left) v h)).0

  not-empty : (vs : List ℕ) (v : ℕ) → Has v vs → is_empty w vs ≡ false
  not-empty [] v h = absurd h
  not-empty (x ∷ vs) v h = refl

  first-of : (vs : List ℕ) → is_empty w vs ≡ false → (v : ℕ) × Has v vs
  first-of [] f = absurd (cc)
  first-of (x ∷ vs) f = (x, inl refl)

  -- units that hold each other are a cycle
  holding-cycle : (plan : List P) (vs : List ℕ) (v : ℕ) → Has v vs → Includes vs w.units → HoldEachOther plan vs → has_no_cycle w plan ≡ false
  holding-cycle plan vs v here i h = not-empty _ v (survive plan vs h (length w.units) w.units i v here)

  -- the needs of a unit, with a pack after the plan
  packed-behind : (plan : List P) (p : P) (v : ℕ) → is_packed w (plan ++ p ∷ []) v ≡ (is_packed w plan v || is_in v (w.units_of p))
  packed-behind [] p v = elim (is_in v (w.units_of p)) as (λ b. (b || false) ≡ (false || b)) [ true ↦ refl | false ↦ refl ]
  packed-behind (q ∷ plan) p v = elim (cases_Bool (is_in v (w.units_of q))) [ inl t ↦ rw t refl | inr f ↦ rw f (packed-behind plan p v) ]

  part : ℕ → P → List ℕ
  part v q = if is_in v (w.units_of q) then w.needs_of q else []

  part-of : (v : ℕ) (q : P) (x : ℕ) → Has x (if is_in v (w.units_of q) then w.needs_of q else []) → (is_in v (w.units_of q) ≡ true) × Has x (w.needs_of q)
  part-of v q x h = elim (cases_Bool (is_in v (w.units_of q))) [ inl t ↦ (t, rw t at h) | inr f ↦ absurd (rw f at h) ]

  -- of a unit of another node
  needs-other : (plan : List P) (p : P) (v : ℕ) → is_in v (w.units_of p) ≡ false → Includes (needs w (plan ++ p ∷ []) v) (needs w plan v)
  needs-other plan p v f = λ x h. elim (cases_Bool (is_packed w plan v)) [
    | inl t ↦ let u : is_packed w (plan ++ p ∷ []) v ≡ true = packed-behind plan p v ∙ (rw t refl) in
        let k = from-flat_map (λ q. if is_in v (w.units_of q) then w.needs_of q else []) x (plan ++ p ∷ []) (rw u at h) in
        rw t (elim (has-append k.0 plan (p ∷ []) k.1) [
          | inl l ↦ has-flat (λ q. if is_in v (w.units_of q) then w.needs_of q else []) k.0 x plan l k.2
          | inr r ↦ elim r [ inl e ↦ absurd (let y = (part-of v k.0 x k.2).0 in let z : is_in v (w.units_of p) ≡ true = subst (λ q. is_in v (w.units_of q) ≡ true) (sym e) y in cc) | inr none ↦ absurd none ]
        ])
    | inr g ↦ let u : is_packed w (plan ++ p ∷ []) v ≡ false = packed-behind plan p v ∙ (rw (g, f) refl) in rw g (rw u at h)
  ]

  -- of a unit of the pack itself
  needs-own : (plan : List P) (p : P) (v : ℕ) → is_in v (w.units_of p) ≡ true → is_packed w plan v ≡ false → Includes (needs w (plan ++ p ∷ []) v) (w.needs_of p)
  needs-own plan p v t g = λ x h.
      let u : is_packed w (plan ++ p ∷ []) v ≡ true = packed-behind plan p v ∙ (rw (g, t) refl) in
      let k = from-flat_map (λ q. if is_in v (w.units_of q) then w.needs_of q else []) x (plan ++ p ∷ []) (rw u at h) in
      let m = part-of v k.0 x k.2 in
      elim (has-append k.0 plan (p ∷ []) k.1) [
        | inl l ↦ absurd (let no = every-has (λ q. is_in v (w.units_of q) ≡ false) k.0 plan (none-found (λ q. is_in v (w.units_of q)) plan g) l in let yes = m.0 in cc)
        | inr r ↦ elim r [ inl e ↦ subst (λ q. Has x (w.needs_of q)) (sym e) m.1 | inr none ↦ absurd none ]
      ]

  -- units of other nodes that hold each other after the pack hold each other before it
  hold-before : (plan : List P) (p : P) (vs : List ℕ) → ((v : ℕ) → Has v vs → is_in v (w.units_of p) ≡ false) → HoldEachOther (plan ++ p ∷ []) vs → HoldEachOther plan vs
  hold-before plan p vs other h = λ v k.
      let y = any-found (λ x. is_in x vs) (needs w (plan ++ p ∷ []) v) (h v k) in
      any-is (λ x. is_in x vs) y.0 (needs w plan v) (needs-other plan p v (other v k) y.0 y.1) y.2

  pub no-cycle-behind : (plan : List P) (p : P) (reached : List ℕ) → IsNew w plan p → IsAway w plan p reached → has_no_cycle w plan ≡ true → has_no_cycle w (plan ++ p ∷ []) ≡ true
  no-cycle-behind plan p reached new a free = elim (cases_Bool (has_no_cycle w (plan ++ p ∷ []))) [
    | inl t ↦ t
    | inr f ↦ absurd (
        let left = left_after w (plan ++ p ∷ []) (length w.units) w.units in
        let hold = left-holds (plan ++ p ∷ []) (length w.units) w.units (omega arith) in
        let inside = left-inside (plan ++ p ∷ []) (length w.units) w.units in
        elim (cases_Bool (list_any (λ v. is_in v (w.units_of p)) left)) [
          | inl t ↦
              let u = any-found (λ v. is_in v (w.units_of p)) left t in
              let y = any-found (λ x. is_in x left) (needs w (plan ++ p ∷ []) u.0) (hold u.0 u.1) in
              let x_left = in-has y.0 left y.2 in
              let x_reached = a.starts y.0 (needs-own plan p u.0 u.2 (new u.0 u.2) y.0 y.1) in
              let vs = filter (λ v. is_in v reached) left in
              let here = has-filter (λ v. is_in v reached) y.0 left x_left (has-in y.0 reached x_reached) in
              let other = λ (v : ℕ) (h : Has v vs). a.away v (in-has v reached (from-filter (λ v. is_in v reached) v left h).1) in
              let holds : HoldEachOther plan vs = λ v h.
              let part = from-filter (λ v. is_in v reached) v left h in
              let z = any-found (λ x. is_in x left) (needs w (plan ++ p ∷ []) v) (hold v part.0) in
              let z_need = needs-other plan p v (other v h) z.0 z.1 in
              let z_reached = a.closed v z.0 (in-has v reached part.1) z_need in
              any-is (λ x. is_in x vs) z.0 (needs w plan v) z_need (has-in z.0 vs (has-filter (λ v. is_in v reached) z.0 left (in-has z.0 left z.2) (has-in z.0 reached z_reached))) in
              let bad = holding-cycle plan vs y.0 here (λ v h. inside v (from-filter (λ v. is_in v reached) v left h).0) holds in
              cc
          | inr n ↦
              let v = first-of left f in
              let other = λ (v : ℕ) (h : Has v left). every-has (λ v. is_in v (w.units_of p) ≡ false) v left (none-found (λ v. is_in v (w.units_of p)) left n) h in
              let bad = holding-cycle plan left v.0 v.1 inside (hold-before plan p left other hold) in
              cc
        ])
  ]

  -- the other way: a pack that reaches itself closes a cycle
  or-true : (b : Bool) → (b || true) ≡ true
  or-true true = refl
  or-true false = refl

  own-needs : (plan : List P) (p : P) (v : ℕ) → is_in v (w.units_of p) ≡ true → Includes (w.needs_of p) (needs w (plan ++ p ∷ []) v)
  own-needs plan p v t = λ x h.
      let u : is_packed w (plan ++ p ∷ []) v ≡ true = packed-behind plan p v ∙ ap (λ b. is_packed w plan v || b) t ∙ or-true (is_packed w plan v) in
      let mine : Has x (if is_in v (w.units_of p) then w.needs_of p else []) = rw t h in
      rw u (has-flat (λ q. if is_in v (w.units_of q) then w.needs_of q else []) p x (plan ++ p ∷ []) (has-right p plan (p ∷ []) (inl refl)) mine)

  other-needs : (plan : List P) (p : P) (v : ℕ) → is_in v (w.units_of p) ≡ false → Includes (needs w plan v) (needs w (plan ++ p ∷ []) v)
  other-needs plan p v f = λ x h. elim (cases_Bool (is_packed w plan v)) [
    | inl t ↦ let u : is_packed w (plan ++ p ∷ []) v ≡ true = packed-behind plan p v ∙ (rw t refl) in
        let k = from-flat_map (λ q. if is_in v (w.units_of q) then w.needs_of q else []) x plan (rw t at h) in
        rw u (has-flat (λ q. if is_in v (w.units_of q) then w.needs_of q else []) k.0 x (plan ++ p ∷ []) (has-left k.0 plan (p ∷ []) k.1) k.2)
    | inr g ↦ let u : is_packed w (plan ++ p ∷ []) v ≡ false = packed-behind plan p v ∙ (rw (g, f) refl) in rw u (rw g at h)
  ]

  abbrev way : (plan : List P) (p : P) (v : ℕ) → Reaches w plan p v → List ℕ
  way plan p _ (there v i t) = v ∷ []
  way plan p _ (down v x i h r) = v ∷ way plan p x r

  way-starts : (plan : List P) (p : P) (v : ℕ) (r : Reaches w plan p v) → Has v (way plan p v r)
  way-starts plan p _ (there v i t) = inl refl
  way-starts plan p _ (down v x i h r) = inl refl

  way-units : (plan : List P) (p : P) (v : ℕ) (r : Reaches w plan p v) → Includes (way plan p v r) w.units
  way-units plan p _ (there v i t) = λ y h. elim h [ inl e ↦ subst (λ z. Has z w.units) e i | inr n ↦ absurd n ]
  way-units plan p _ (down v x i h r) = λ y k. elim k [ inl e ↦ subst (λ z. Has z w.units) e i | inr n ↦ way-units plan p x r y n ]

  -- the first unit of the way is a need of the pack, so each of the way is held back by one of it
  way-holds : (plan : List P) (p : P) (first : ℕ) → Has first (w.needs_of p) → (vs : List ℕ) → Has first vs → (v : ℕ) (r : Reaches w plan p v) → Includes (way plan p v r) vs →
      (y : ℕ) → Has y (way plan p v r) → is_held_back w (plan ++ p ∷ []) vs y ≡ true
  way-holds plan p first need vs in_vs _ (there v i t) sub = λ y h.
      let own = any-is (λ x. is_in x vs) first (needs w (plan ++ p ∷ []) v) (own-needs plan p v t first need) (has-in first vs in_vs) in
      elim h [ inl e ↦ subst (λ z. is_held_back w (plan ++ p ∷ []) vs z ≡ true) e own | inr n ↦ absurd n ]
  way-holds plan p first need vs in_vs _ (down v x i h r) sub = λ y k. elim k [
    | inl e ↦ subst (λ z. is_held_back w (plan ++ p ∷ []) vs z ≡ true) e (elim (cases_Bool (is_in v (w.units_of p))) [
      | inl t ↦ any-is (λ x. is_in x vs) first (needs w (plan ++ p ∷ []) v) (own-needs plan p v t first need) (has-in first vs in_vs)
      | inr f ↦ any-is (λ x. is_in x vs) x (needs w (plan ++ p ∷ []) v) (other-needs plan p v f x h) (has-in x vs (sub x (inr (way-starts plan p x r))))
    ])
    | inr n ↦ way-holds plan p first need vs in_vs x r (λ z m. sub z (inr m)) y n
  ]

  pub cycle-behind : (plan : List P) (p : P) (first : ℕ) → Has first (w.needs_of p) → Reaches w plan p first → has_no_cycle w (plan ++ p ∷ []) ≡ false
  cycle-behind plan p first need r =
      let vs = way plan p first r in
      holding-cycle (plan ++ p ∷ []) vs first (way-starts plan p first r) (way-units plan p first r)
      (λ y h. way-holds plan p first need vs (way-starts plan p first r) first r (λ z m. m) y h)
