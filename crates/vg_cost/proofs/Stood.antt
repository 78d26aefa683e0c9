-- What can be had stands in packs of the plan.
use Rattle.std.proofs.Common.{◌≡◌, ℕ, zero, suc, ◌+◌, ◌%◌, ◌<◌, ◌≤◌, ◌⊎◌, Bool, true, false, List, [], ◌∷◌, ◌++◌, get_or, length, map, refl, sym, ◌∙◌, ap, subst, inl, inr, arith, length-append}
use Rattle.std.specs.Prelude.{◌&&◌, ◌||◌, not, filter, nat_eq, nat_le, nat_lt, Option, Some, None, slice_get}
use Rattle.std.specs.List.{flat_map, list_any, list_all}
use Rattle.std.proofs.Math.Nat.{mod-add-mod}
use Rattle.std.proofs.lemmas.Bool.{cases_Bool}
use Rattle.std.proofs.lemmas.Bool.Decides.{nat_tests}
use Rattle.std.proofs.lemmas.List.Folds.{list_any-append}
use Rattle.vg_plans.specs.Members.{Has as Member}
use Rattle.vg_plans.specs.World.{can_shuffle, is_in, is_reused}
use Rattle.vg_plans.proofs.Members.{any-found, any-is, has-filter, has-flat}
use Rattle.vg_terms.specs.Term.{Tree, leaf, constant, one, two, sel}
use Rattle.vg_shapes.specs.declared.operand.Operand.{Operand}
use Rattle.vg_shapes.specs.declared.operand.Slot.{Slot}
use Rattle.vg_shapes.specs.declared.pack.Pack.{Pack}
use Rattle.vg_shapes.specs.declared.ssa.Ssa.{Ssa}
use Rattle.vg_shapes.specs.declared.wanted.Wanted.{Wanted}
use Rattle.vg_shapes.specs.declared.wanted.Wanted.TheVariants.{Value, Constant, Nothing}
use Rattle.vg_shapes.specs.Description.{Description}
use Rattle.vg_shapes.specs.Operands.{lanes_of}
use Rattle.vg_shapes.specs.Pack.{units_of}
use Rattle.vg_kernel_plans.specs.Held.{held_slots, holds, lane_width_of, lanes_from}
use Rattle.vg_kernel_plans.specs.Packing.{packing}
use Rattle.vg_kernel_plans.specs.SameAs.{same_slot}
use Rattle.vg_kernel_plans.specs.Shuffles.{is_lane_slot, is_shuffle, moved_from, moved_leaf, parts_from, shuffle_of}
use Rattle.vg_kernel_plans.specs.Wants.{is_wanted, slot, wanted_slots, wants_value}
use Rattle.vg_kernel_plans.proofs.SameTests.{both-true, eq-itself, slot-is}
use Rattle.vg_cost.specs.Had.{costs_had}
use Rattle.vg_cost.specs.Places.{ArePlaces, are_met, is_met, may_have, may_move, may_stand, place, places_from, places_of}
use Rattle.vg_cost.specs.Shuffling.{is_tight, is_tight_lane}
use Rattle.vg_cost.proofs.Own.{all-has, held-value, holds-slot, moved-from}

or-right : (a b : Bool) → b ≡ true → a || b ≡ true
or-right true b e = refl
or-right false b e = e

or-left : (a b : Bool) → a ≡ true → a || b ≡ true
or-left true b e = refl
or-left false b e = absurd (cc)

and-both : (a b : Bool) → a ≡ true → b ≡ true → a && b ≡ true
and-both true true p q = refl
and-both true false p q = q
and-both false b p q = p

-- a test of each member
all-from : {X : Type 0} (test : X → Bool) (xs : List X) → ((x : X) → Member x xs → test x ≡ true) → list_all test xs ≡ true
all-from test [] e = refl
all-from test (x ∷ xs) e = and-both (test x) (list_all test xs) (e x (inl refl)) (all-from test xs (λ y h. e y (inr h)))

-- the place of a value that a lane has is among those of the lanes
at-place : (low width : ℕ) (lanes : List (Option ℕ)) (s : Slot) → list_any (same_slot s) (lanes_from low width lanes) ≡ true
    → (v : ℕ) × (s.wanted ≡ Value v) × (is_in (place v (s.low % 512)) (places_from (low % 512) width lanes) ≡ true)
at-place low width [] s t = absurd (cc)
at-place low width (None ∷ lanes) s t =
    let k = at-place (low + width) width lanes s t in
    (k.0, k.1, subst (λ n. is_in (place k.0 (s.low % 512)) (places_from n width lanes) ≡ true) (sym (mod-add-mod low 512 width)) k.2)
at-place low width (Some u ∷ lanes) s t = elim (cases_Bool (same_slot s (slot low width (Value u)))) [
  | inl h ↦
      let e = slot-is s (slot low width (Value u)) h in (
        u,
        ap (λ z. z.wanted) e,
        or-left (nat_eq (place u (s.low % 512)) (place u (low % 512))) _
            (subst (λ n. nat_eq (place u (n % 512)) (place u (low % 512)) ≡ true) (sym (ap (λ z. z.low) e)) (eq-itself (place u (low % 512)))),
      )
  | inr f ↦
      let k = at-place (low + width) width lanes s (rw f at t) in (
        k.0,
        k.1,
        or-right (nat_eq (place k.0 (s.low % 512)) (place u (low % 512))) _
            (subst (λ n. is_in (place k.0 (s.low % 512)) (places_from n width lanes) ≡ true) (sym (mod-add-mod low 512 width)) k.2),
      )
]

held-place : (ds : List Description) (ssa : Ssa) (p : Pack) (s : Slot) → list_any (same_slot s) (held_slots ds ssa p) ≡ true
    → (v : ℕ) × (s.wanted ≡ Value v) × (is_in (place v (s.low % 512)) (places_of ds ssa p) ≡ true)
held-place ds ssa p s t = at-place 0 (lane_width_of ds ssa p) (lanes_of p) s t

in-flat : (ds : List Description) (ssa : Ssa) (v : ℕ) (p : Pack) (plan : List Pack) → Member p plan
    → is_in v (places_of ds ssa p) ≡ true → is_in v (flat_map (places_of ds ssa) plan) ≡ true
in-flat ds ssa v p [] h t = absurd h
in-flat ds ssa v p (q ∷ plan) h t =
    list_any-append (nat_eq v) (places_of ds ssa q) (flat_map (places_of ds ssa) plan)
    ∙ elim h [
      | inl e ↦ or-left _ _ (subst (λ z. is_in v (places_of ds ssa z) ≡ true) (sym e) t)
      | inr r ↦ or-right (is_in v (places_of ds ssa q)) _ (in-flat ds ssa v p plan r t)
    ]

-- what a pack holds may stand there by the marks
stood : (ds : List Description) (ssa : Ssa) (plan : List Pack) (marks : List Bool) (p : Pack) (s : Slot)
    → ArePlaces ds ssa plan marks → Member p plan → list_any (same_slot s) (held_slots ds ssa p) ≡ true
    → may_stand marks s.wanted s.low ≡ true
stood ds ssa plan marks p s a h t =
    let k = held-place ds ssa p s t in
    let n = place k.0 (s.low % 512) in
    let there = in-flat ds ssa n p plan h k.2 in
    let marked : not (nat_lt n (length marks)) || get_or marks n false ≡ true =
    elim (cases_Bool (nat_lt n (length marks))) [
      | inl l ↦
          let inside : n < length marks = grind (arith, nat_tests, l) in
          or-right (not (nat_lt n (length marks))) _ (a.each n inside ∙ there)
      | inr f ↦ or-left (not (nat_lt n (length marks))) _ (ap not f)
    ]
    in
    ap (λ x. may_stand marks x s.low) k.1 ∙ marked

-- a leaf of a parameter is among the slots of its part
behind-k : (k n : ℕ) (l : List ℕ) → k ≤ n → nat_eq n k ≡ false → n < k + suc (length l) → (suc k ≤ n) × (n < suc k + length l)
behind-k k n l a f b = (grind (arith, nat_tests, f, a), grind (arith, b))

has-map : {X Y : Type 0} (f : X → Y) (x : X) (xs : List X) → Member x xs → Member (f x) (map f xs)
has-map f x [] h = absurd h
has-map f x (y ∷ xs) h = elim h [ inl e ↦ inl (ap f e) | inr r ↦ inr (has-map f x xs r) ]

not-empty : {X : Type 0} (x : X) (xs : List X) → Member x xs → nat_eq (length xs) 0 ≡ false
not-empty x [] h = absurd h
not-empty x (y ∷ xs) h = elim (cases_Bool (nat_eq (length (y ∷ xs)) 0)) [
  | inl t ↦ absurd (grind (arith, nat_tests, t))
  | inr f ↦ f
]

part-of : (moved : List (ℕ × Slot)) (k : ℕ) (params : List ℕ) (m : ℕ × Slot) → Member m moved → k ≤ m.0 → m.0 < k + length params
    → (n : Operand) × Member n (parts_from moved k params) × Member m.1 n.slots
part-of moved k [] m h a b = absurd (omega arith)
part-of moved k (r ∷ params) m h a b =
    let own = map (λ m. m.1) (filter (λ m. nat_eq m.0 k) moved) in
    elim (cases_Bool (nat_eq m.0 k)) [
      | inl t ↦
          let there = has-map (λ m. m.1) m (filter (λ m. nat_eq m.0 k) moved) (has-filter (λ m. nat_eq m.0 k) m moved h t) in
          rw (not-empty m.1 own there) (record { register = r; slots = own }, inl refl, there)
      | inr f ↦
          let far = behind-k k m.0 params a f b in
          let rest = part-of moved (suc k) params m h far.0 far.1 in
          elim (cases_Bool (nat_eq (length own) 0)) [
            | inl t ↦ rw t rest
            | inr g ↦ rw g (rest.0, inr rest.1, rest.2)
          ]
    ]

-- as many leaves as slots: each lane is one
at-most-one : (t : Option Tree) (s : Slot) → length (moved_leaf t s) ≤ 1
at-most-one None s = omega arith
at-most-one (Some (leaf w k)) s = omega arith
at-most-one (Some (constant w n)) s = omega arith
at-most-one (Some (one op w k x)) s = omega arith
at-most-one (Some (two op w x y)) s = omega arith
at-most-one (Some (sel w c x y)) s = omega arith

length-split : (e : Description) (s : Slot) (ss : List Slot) → length (flat_map (moved_from e) (s ∷ ss)) ≡ length (moved_from e s) + length (flat_map (moved_from e) ss)
length-split e s ss = length-append (moved_from e s) (flat_map (moved_from e) ss)

no-more : (e : Description) (ss : List Slot) → length (flat_map (moved_from e) ss) ≤ length ss
no-more e [] = omega arith
no-more e (s ∷ ss) =
    let a = length-split e s ss in
    let b : length (moved_from e s) ≤ 1 = at-most-one _ s in
    let c = no-more e ss in
    omega arith

first : (ms : List (ℕ × Slot)) → 1 ≤ length ms → (m : ℕ × Slot) × Member m ms
first [] l = absurd (omega arith)
first (m ∷ ms) l = (m, inl refl)

some-moved : (e : Description) (s : Slot) (ss : List Slot) → Member s ss → length (flat_map (moved_from e) ss) ≡ length ss
    → (m : ℕ × Slot) × Member m (moved_from e s)
some-moved e s [] h l = absurd h
some-moved e s (z ∷ ss) h l =
    let a = length-split e z ss in
    let b : length (moved_from e z) ≤ 1 = at-most-one _ z in
    let c = no-more e ss in
    elim h [
      | inl q ↦
          let one : 1 ≤ length (moved_from e z) = omega arith in
          subst (λ y. (m : ℕ × Slot) × Member m (moved_from e y)) q (first (moved_from e z) one)
      | inr r ↦ some-moved e s ss r (omega arith)
    ]

has-moved : (e : Description) (s : Slot) (m : ℕ × Slot) (ss : List Slot) → Member s ss → Member m (moved_from e s) → Member m (flat_map (moved_from e) ss)
has-moved e s m ss h k = has-flat (moved_from e) s m ss h k

-- what a shuffle that can be had takes of a slot: its lane is a leaf of no parameter, or stands in a pack
pub record Stands (ds : List Description) (ssa : Ssa) (plan : List Pack) (e : Description) (s : Slot) : Type 0 where
  pub leaf : ℕ × Slot
  pub moved : Member leaf (moved_from e s)
  pub there : (length e.params ≤ leaf.0) ⊎ ((p : Pack) × Member p plan × (list_any (same_slot leaf.1) (held_slots ds ssa p) ≡ true))

abbrev fits : Operand → Description → Bool
fits o e =
    is_shuffle e
    && (nat_eq e.register o.register
    && (list_all (is_lane_slot e.lane_width) (wanted_slots o)
    && (nat_eq (length (flat_map (moved_from e) (wanted_slots o))) (length (wanted_slots o))
    && nat_le e.cost (1 + length (wanted_slots o)))))

had-stands : (ds : List Description) (ssa : Ssa) (plan : List Pack) (o : Operand) (e : Description) (s : Slot)
    → fits o e ≡ true
    → can_shuffle (packing ds [] ssa []) plan (e.cost, parts_from (flat_map (moved_from e) (wanted_slots o)) 0 e.params) ≡ true
    → Member s o.slots → is_wanted s.wanted ≡ true → Stands ds ssa plan e s
had-stands ds ssa plan o e s c can h w =
    let moved = flat_map (moved_from e) (wanted_slots o) in
    let c2 = (both-true (is_shuffle e) _ c).1 in
    let c3 = (both-true (nat_eq e.register o.register) _ c2).1 in
    let c4 = (both-true (list_all (is_lane_slot e.lane_width) (wanted_slots o)) _ c3).1 in
    let c5 = (both-true (nat_eq (length moved) (length (wanted_slots o))) _ c4).0 in
    let long : length moved ≡ length (wanted_slots o) = grind (arith, nat_tests, c5) in
    let i = has-filter (λ s. is_wanted s.wanted) s o.slots h w in
    let m = some-moved e s (wanted_slots o) i long in
    record {
      leaf = m.0;
      moved = m.1;
      there = elim (cases_Bool (nat_le (length e.params) m.0.0)) [
        | inl t ↦ inl (grind (arith, nat_tests, t))
        | inr f ↦
            let inside : m.0.0 < 0 + length e.params = grind (arith, nat_tests, f) in
            let n = part-of moved 0 e.params m.0 (has-moved e s m.0 (wanted_slots o) i m.1) (omega arith) inside in
            let given = all-has (λ n. list_any (λ p. holds ds ssa p n) plan) n.0 (parts_from moved 0 e.params) can n.1 in
            let p = any-found (λ p. holds ds ssa p n.0) plan given in
            let wanted : is_wanted m.0.1.wanted ≡ true = ap is_wanted (moved-from e s m.0 m.1) ∙ w in
            inr (p.0, p.1, holds-slot ds ssa p.0 n.0 m.0.1 p.2 n.2 wanted)
      ];
    }

had-moves : (ds : List Description) (ssa : Ssa) (plan : List Pack) (marks : List Bool) (o : Operand) (e : Description)
    → ArePlaces ds ssa plan marks → fits o e ≡ true
    → can_shuffle (packing ds [] ssa []) plan (e.cost, parts_from (flat_map (moved_from e) (wanted_slots o)) 0 e.params) ≡ true
    → may_have marks o e ≡ true
had-moves ds ssa plan marks o e a c can =
    let c2 = (both-true (is_shuffle e) _ c).1 in
    let c3 = both-true (nat_eq e.register o.register) _ c2 in
    let c4 = (both-true (list_all (is_lane_slot e.lane_width) (wanted_slots o)) _ c3.1).0 in
    and-both (nat_eq e.register o.register) _ c3.0 (all-from (may_move marks e) o.slots (λ s h.
    elim (cases_Bool (is_wanted s.wanted)) [
      | inl w ↦
          let l = all-has (is_lane_slot e.lane_width) s (wanted_slots o) c4 (has-filter (λ s. is_wanted s.wanted) s o.slots h w) in
          let wide = (both-true (nat_eq s.width e.lane_width) _ (both-true (wants_value s.wanted) _ l).1).0 in
          let k = had-stands ds ssa plan o e s c can h w in
          let test : nat_le (length e.params) k.leaf.0 || may_stand marks k.leaf.1.wanted k.leaf.1.low ≡ true =
          elim k.there [
            | inl far ↦ or-left (nat_le (length e.params) k.leaf.0) _ (grind (arith, nat_tests, far))
            | inr p ↦ or-right (nat_le (length e.params) k.leaf.0) _ (stood ds ssa plan marks p.0 k.leaf.1 a p.1 p.2)
          ]
          in
          or-right (not (is_wanted s.wanted)) _ (and-both (nat_eq s.width e.lane_width) _ wide
          (any-is (λ m. nat_le (length e.params) m.0 || may_stand marks m.1.wanted m.1.low) k.leaf (moved_from e s) k.moved test))
      | inr f ↦ or-left (not (is_wanted s.wanted)) _ (ap not f)
    ]))

none-of : (ds : List Description) (ssa : Ssa) (plan : List Pack) (o : Operand) (e : Description)
    → (fits o e ≡ true
    → can_shuffle (packing ds [] ssa []) plan (e.cost, parts_from (flat_map (moved_from e) (wanted_slots o)) 0 e.params) ≡ true → ⊥)
    → costs_had ds ssa plan (shuffle_of o e) ≡ []
none-of ds ssa plan o e none = elim (cases_Bool (fits o e)) [
  | inl c ↦ rw c (elim (cases_Bool (can_shuffle (packing ds [] ssa []) plan (e.cost, parts_from (flat_map (moved_from e) (wanted_slots o)) 0 e.params))) [
    | inl t ↦ absurd (none c t)
    | inr f ↦ rw f refl
  ])
  | inr f ↦ rw f refl
]

differ : (b : Bool) → b ≡ true → b ≡ false → ⊥
differ true t f = absurd (cc)
differ false t f = absurd (cc)

-- a shuffle that by the marks may not have what it takes cannot be had
pub none_had_of : (ds : List Description) (ssa : Ssa) (plan : List Pack) (marks : List Bool) (o : Operand) (e : Description)
    → ArePlaces ds ssa plan marks → may_have marks o e ≡ false → costs_had ds ssa plan (shuffle_of o e) ≡ []
none_had_of ds ssa plan marks o e a f = none-of ds ssa plan o e (λ c t. differ _ (had-moves ds ssa plan marks o e a c t) f)

some-same : {X : Type 0} (x y : X) → Some x ≡ Some y → x ≡ y
some-same x y e = cc

at-index : (n : ℕ) (ts : List Tree) (i : ℕ) (t : Tree) → list_all (is_tight_lane n) ts ≡ true → slice_get ts i ≡ Some t
    → is_tight_lane n t ≡ true
at-index n [] i t a g = absurd (cc)
at-index n (x ∷ ts) zero t a g =
    subst (λ y. is_tight_lane n y ≡ true) (some-same x t g) (both-true (is_tight_lane n x) (list_all (is_tight_lane n) ts) a).0
at-index n (x ∷ ts) (suc i) t a g =
    at-index n ts i t (both-true (is_tight_lane n x) (list_all (is_tight_lane n) ts) a).1 g

-- a leaf of a tight shuffle is of one of its parameters
tight-leaf : (n : ℕ) (t : Option Tree) (lanes : List Tree) (s : Slot) (m : ℕ × Slot) (i : ℕ) → slice_get lanes i ≡ t
    → list_all (is_tight_lane n) lanes ≡ true → Member m (moved_leaf t s) → m.0 < n
tight-leaf n None lanes s m i g a h = absurd h
tight-leaf n (Some (leaf w k)) lanes s m i g a h = elim h [
  | inl e ↦
      let l : nat_lt k.first n ≡ true = at-index n lanes i (leaf w k) a g in
      subst (λ x. x.0 < n) e (grind (arith, nat_tests, l))
  | inr none ↦ absurd none
]
tight-leaf n (Some (constant w v)) lanes s m i g a h = absurd h
tight-leaf n (Some (one op w k x)) lanes s m i g a h = absurd h
tight-leaf n (Some (two op w x y)) lanes s m i g a h = absurd h
tight-leaf n (Some (sel w c x y)) lanes s m i g a h = absurd h

-- a value that no pack has is wanted
unmet : (plan : List Pack) (ss : List Slot) → list_all (λ s. is_met plan s.wanted) ss ≡ false
    → (s : Slot) × Member s ss × (is_met plan s.wanted ≡ false)
unmet plan [] f = absurd (cc)
unmet plan (s ∷ ss) f = elim (cases_Bool (is_met plan s.wanted)) [
  | inl t ↦ let k = unmet plan ss (rw t at f) in (k.0, inr k.1, k.2)
  | inr g ↦ (s, inl refl, g)
]

unmet-wanted : (plan : List Pack) (x : Wanted) → is_met plan x ≡ false → is_wanted x ≡ true
unmet-wanted plan (Value v) f = refl
unmet-wanted plan (Constant w n) f = refl
unmet-wanted plan Nothing f = absurd (cc)

-- what a pack of the plan holds is met
met-held : (ds : List Description) (ssa : Ssa) (plan : List Pack) (p : Pack) (s : Slot) → Member p plan
    → list_any (same_slot s) (held_slots ds ssa p) ≡ true → is_met plan s.wanted ≡ true
met-held ds ssa plan p s h t =
    let k = held-value ds ssa p s t in
    ap (is_met plan) k.1 ∙ any-is (λ q. is_in k.0 (units_of q)) p plan h k.2

had-append : (ds : List Description) (ssa : Ssa) (plan : List Pack) (xs ys : List (ℕ × List Operand))
    → costs_had ds ssa plan (xs ++ ys) ≡ costs_had ds ssa plan xs ++ costs_had ds ssa plan ys
had-append ds ssa plan [] ys = refl
had-append ds ssa plan (x ∷ xs) ys = elim (cases_Bool (can_shuffle (packing ds [] ssa []) plan x)) [
  | inl t ↦ rw t (ap (λ l. x.0 ∷ l) (had-append ds ssa plan xs ys))
  | inr g ↦ rw g (had-append ds ssa plan xs ys)
]

module _ (ds : List Description) (ssa : Ssa) (plan : List Pack) (o : Operand) (f : are_met plan o ≡ false) where
  some-slot : (s : Slot) × Member s o.slots × (is_met plan s.wanted ≡ false)
  some-slot = unmet plan o.slots f

  -- an operand is not held where a value of it is in no pack
  pub not-reused : is_reused (packing ds [] ssa []) plan o ≡ false
  not-reused = elim (cases_Bool (is_reused (packing ds [] ssa []) plan o)) [
    | inl t ↦
        let p = any-found (λ p. holds ds ssa p o) plan t in
        let s = some-slot in
        absurd (differ _ (met-held ds ssa plan p.0 s.0 p.1
        (holds-slot ds ssa p.0 o s.0 p.2 s.1 (unmet-wanted plan s.0.wanted s.2))) s.2)
    | inr g ↦ g
  ]

  not-fit : (e : Description) → is_tight e ≡ true → fits o e ≡ true
      → can_shuffle (packing ds [] ssa []) plan (e.cost, parts_from (flat_map (moved_from e) (wanted_slots o)) 0 e.params) ≡ true → ⊥
  not-fit e tight c can =
      let s = some-slot in
      let shuffle = (both-true (is_shuffle e) _ c).0 in
      let lanes : list_all (is_tight_lane (length e.params)) e.lanes ≡ true = rw shuffle at tight in
      let k = had-stands ds ssa plan o e s.0 c can s.1 (unmet-wanted plan s.0.wanted s.2) in
      let inside = tight-leaf (length e.params) _ e.lanes s.0 k.leaf _ refl lanes k.moved in
      elim k.there [
        | inl far ↦ absurd (omega arith)
        | inr p ↦
            differ _ (ap (is_met plan) (sym (moved-from e s.0 k.leaf k.moved)) ∙ met-held ds ssa plan p.0 k.leaf.1 p.1 p.2) s.2
      ]

  -- nor is it made by a shuffle whose lanes are of its parameters
  pub none-met : (es : List Description) → list_all is_tight es ≡ true → costs_had ds ssa plan (flat_map (shuffle_of o) es) ≡ []
  none-met [] t = refl
  none-met (e ∷ es) t =
      let b = both-true (is_tight e) (list_all is_tight es) t in
      had-append ds ssa plan (shuffle_of o e) (flat_map (shuffle_of o) es)
      ∙ ap (λ l. l ++ costs_had ds ssa plan (flat_map (shuffle_of o) es)) (none-of ds ssa plan o e (not-fit e b.0))
      ∙ none-met es b.1
