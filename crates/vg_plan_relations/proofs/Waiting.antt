-- Where units hold each other back, a walk along the nodes that wait for each other comes back: a cycle.
use Rattle.std.proofs.Common.{◌≡◌, ℕ, zero, suc, ◌+◌, ◌<◌, ◌≤◌, ◌⊎◌, Bool, true, false, List, [], ◌∷◌, length, map, filter, refl, sym, ◌∙◌, ap, subst, inl, inr, arith}
use Rattle.std.specs.Prelude.{Contains, if◌then◌else◌, nat_eq, not, Some, slice_get, flat_map}
use Rattle.std.specs.List.{AllByRecursion, filter_map, list_any}
use Rattle.std.specs.Option.{option_map_or}
use Rattle.std.proofs.lemmas.Bool.{cases_Bool}
use Rattle.std.proofs.lemmas.Bool.Decides.{nat_tests}
use Rattle.vg_plans.specs.Members.{Every, Has}
use Rattle.vg_plans.specs.World.{World, has_no_cycle, is_empty, is_held_back, is_in, is_packed, left_after, needs}
use Rattle.vg_plans.proofs.Disjoint.{unique-length}
use Rattle.vg_plans.proofs.Lists.{every-has, has-map}
use Rattle.vg_plans.proofs.Members.{Includes, Unique, any-found, any-is, from-filter, from-flat_map, has-filter, has-left, has-right}
use Rattle.vg_plans.proofs.Reach.{has-in, in-has}
use Rattle.vg_shapes.specs.declared.match_table.Bound.{Bound}
use Rattle.vg_shapes.specs.declared.match_table.Match.{Match}
use Rattle.vg_shapes.specs.declared.operand.Operand.{Operand}
use Rattle.vg_shapes.specs.declared.order.Node.{Node}
use Rattle.vg_shapes.specs.declared.order.Node.TheVariants.{PackAt, UnitAt}
use Rattle.vg_shapes.specs.declared.pack.Pack.{Pack}
use Rattle.vg_shapes.specs.declared.pack.Pack.TheVariants.{Stores, Loads, Call}
use Rattle.vg_shapes.specs.declared.ssa.Ssa.{Ssa}
use Rattle.vg_shapes.specs.declared.wanted.Wanted.{Wanted}
use Rattle.vg_shapes.specs.declared.wanted.Wanted.TheVariants.{Value, Constant, Nothing}
use Rattle.vg_shapes.specs.DepList.{row_of}
use Rattle.vg_shapes.specs.Depends.{dependences, depends_on, numbers_below}
use Rattle.vg_shapes.specs.Description.{Description}
use Rattle.vg_shapes.specs.Nodes as node
use Rattle.vg_shapes.specs.Order.{numbers_from, Stands}
use Rattle.vg_shapes.specs.Pack.{bounds_from, units_of}
use Rattle.vg_shapes.specs.Units.{arguments, is_unit, is_value}
use Rattle.vg_kernel_plans.specs.Packing.{falling_units, needs_of, packing}
use Rattle.vg_kernel_plans.specs.Wants.{value_of}
use Rattle.vg_deps.proofs.Pairs.{lists-dependences}
use Rattle.vg_order.proofs.Graphs.{found-stands, unit-inside}
use Rattle.vg_plan_relations.proofs.Exact.{and-true}

-- ---- units that are left hold each other back, over any packs

filter-shorter : (test : ℕ → Bool) (xs : List ℕ) → (length (filter test xs) < length xs) ⊎ Every (λ x. test x ≡ true) xs
filter-shorter test [] = inr tt
filter-shorter test (x ∷ xs) = elim (cases_Bool (test x)) [
  | inl t ↦ rw t (elim (filter-shorter test xs) [ inl l ↦ inl (omega arith) | inr a ↦ inr (refl, a) ])
  | inr f ↦ rw f (inl (omega (arith, at-most test xs)))
]
  where
    at-most : (test : ℕ → Bool) (xs : List ℕ) → length (filter test xs) ≤ length xs
    at-most test [] = omega arith
    at-most test (x ∷ xs) = elim (cases_Bool (test x)) [
      | inl t ↦ rw t (let h = at-most test xs in omega arith)
      | inr f ↦ rw f (let h = at-most test xs in omega arith)
    ]

filter-all : (test : ℕ → Bool) (xs : List ℕ) → Every (λ x. test x ≡ true) xs → filter test xs ≡ xs
filter-all test [] a = refl
filter-all test (x ∷ xs) a = let t = a.0 in rw t (ap (λ l. x ∷ l) (filter-all test xs a.1))

module _ {P O N : Type 0} (w : World P O N) (plan : List P) where
  -- each of these is held back by one of them
  abbrev pub HoldEachOther : List ℕ → Type 0
  HoldEachOther vs = (v : ℕ) → Has v vs → is_held_back w plan vs v ≡ true

  stay-all : (rounds : ℕ) (left : List ℕ) → Every (λ v. is_held_back w plan left v ≡ true) left → left_after w plan rounds left ≡ left
  stay-all zero left a = refl
  stay-all (suc rounds) left a = let e = filter-all (is_held_back w plan left) left a in ap (left_after w plan rounds) e ∙ stay-all rounds left a

  pub left-holds : (rounds : ℕ) (left : List ℕ) → length left ≤ rounds → HoldEachOther (left_after w plan rounds left)
  left-holds zero [] le = λ v h. absurd h
  left-holds zero (x ∷ left) le = absurd (omega arith)
  left-holds (suc rounds) left le = elim (filter-shorter (is_held_back w plan left) left) [
    | inl l ↦ left-holds rounds (filter (is_held_back w plan left) left) (omega arith)
    | inr a ↦ subst HoldEachOther (sym (stay-all (suc rounds) left a)) (λ v h. every-has (λ v. is_held_back w plan left v ≡ true) v left a h)
  ]

  pub left-inside : (rounds : ℕ) (left : List ℕ) → Includes (left_after w plan rounds left) left
  left-inside zero left = λ v h. h
  left-inside (suc rounds) left = λ v h. (from-filter (is_held_back w plan left) v left (left-inside rounds (filter (is_held_back w plan left) left) v h)).0

  pub first-of : (vs : List ℕ) → is_empty w vs ≡ false → (v : ℕ) × Has v vs
  first-of [] f = absurd (cc)
  first-of (x ∷ vs) f = (x, inl refl)

-- ---- nodes

has-contains : {A : Type 0} (xs : List A) (x : A) → Has x xs → Contains xs x
has-contains [] x h = absurd h
has-contains (y ∷ xs) x h = elim h [
  | inl e ↦ (zero, omega arith, e)
  | inr r ↦ let k = has-contains xs x r in (suc k.0, (let l = k.1 in omega (arith, l)), k.2)
]

number-has : (u f n : ℕ) → f ≤ u → u < f + n → Has u (numbers_from f n)
number-has u f zero a b = absurd (omega (arith, a, b))
number-has u f (suc n) a b = elim (cases_Bool (nat_eq f u)) [
  | inl t ↦ inl (grind (arith, nat_tests, t))
  | inr g ↦
      let l : f < u = grind (arith, nat_tests, g, a) in
      inr (number-has u (f + 1) n (omega (arith, l)) (omega (arith, b)))
]

has-get : {A : Type 0} (xs : List A) (x : A) → Has x xs → (k : ℕ) × (slice_get xs k ≡ Some x) × (k < length xs)
has-get [] x h = absurd h
has-get (y ∷ xs) x h = elim h [
  | inl e ↦ (zero, ap Some e, omega arith)
  | inr r ↦ let k = has-get xs x r in (suc k.0, k.1, (let l = k.2 in omega (arith, l)))
]

value-has : (x : ℕ) (bounds : List Bound) → Has x (filter_map (λ (b : Bound). value_of b.wanted) bounds) → list_any (λ (b : Bound). is_value x b.wanted) bounds ≡ true
value-has x [] h = absurd h
value-has x (b ∷ bounds) h = by (λ k. value-has x bounds k) b.wanted refl h
  where
    by : (Has x (filter_map (λ (b : Bound). value_of b.wanted) bounds) → list_any (λ (b : Bound). is_value x b.wanted) bounds ≡ true)
        → (o : Wanted) → b.wanted ≡ o → Has x (filter_map (λ (b : Bound). value_of b.wanted) (b ∷ bounds))
        → list_any (λ (b : Bound). is_value x b.wanted) (b ∷ bounds) ≡ true
    by rest (Value v) o h = elim (cases_Bool (nat_eq v x)) [
      | inl t ↦ rw (o, t) refl
      | inr f ↦ rw (o, f) (elim (rw o at h) [ inl e ↦ absurd (grind (arith, nat_tests, f, e)) | inr r ↦ rest r ])
    ]
    by rest (Constant w n) o h = rw o (rest (rw o at h))
    by rest Nothing o h = rw o (rest (rw o at h))

listed-depends : (ssa : Ssa) (v x : ℕ) → Has x (row_of (dependences ssa) v) → depends_on ssa v x ≡ true
listed-depends ssa v x h = sym (lists-dependences ssa v x) ∙ has-in x (row_of (dependences ssa) v) h

rows-depend : (ssa : Ssa) (us : List ℕ) (x : ℕ) → Has x (flat_map (row_of (dependences ssa)) us) → list_any (λ u. depends_on ssa u x) us ≡ true
rows-depend ssa us x h =
    let k = from-flat_map (row_of (dependences ssa)) x us h in
    any-is (λ u. depends_on ssa u x) k.0 us k.1 (listed-depends ssa k.0 x k.2)

pack-depends : (ssa : Ssa) (matches : List Match) (p : Pack) (x : ℕ) → Has x (needs_of matches ssa (dependences ssa) p) → node.pack_depends ssa matches p x ≡ true
pack-depends ssa matches (Stores us) x h = rows-depend ssa us x h
pack-depends ssa matches (Loads us) x h = rows-depend ssa us x h
pack-depends ssa matches (Call d lanes) x h =
    let k = from-filter (is_unit ssa) x (filter_map (λ (b : Bound). value_of b.wanted) (bounds_from matches d 0 lanes)) h in
    let t = value-has x (bounds_from matches d 0 lanes) k.0 in
    and-true _ _ k.1 t

module _ (ds : List Description) (matches : List Match) (ssa : Ssa) (packs : List Pack) where
  abbrev world : World Pack Operand Operand
  world = packing ds matches ssa (dependences ssa)

  -- a node has a unit, and depends on one of these
  record IsStep (left : List ℕ) (v : ℕ) (n : Node) : Type 0 where
    there : Has n (node.nodes ssa packs)
    own : Stands v (node.units_at packs n)
    next : ℕ
    waits : Has next left
    depends : node.node_depends ssa matches packs n next ≡ true

  needed-of : (v : ℕ) (q : Pack) (x : ℕ) → Has x (if is_in v (units_of q) then needs_of matches ssa (dependences ssa) q else [])
      → (is_in v (units_of q) ≡ true) × Has x (needs_of matches ssa (dependences ssa) q)
  needed-of v q x h = elim (cases_Bool (is_in v (units_of q))) [ inl t ↦ (t, rw t at h) | inr f ↦ absurd (rw f at h) ]

  packed-step : (left : List ℕ) (v x : ℕ) → Has x left → is_packed world packs v ≡ true → Has x (needs world packs v) → (n : Node) × IsStep left v n
  packed-step left v x w t h =
      let k = from-flat_map (λ q. if is_in v (units_of q) then needs_of matches ssa (dependences ssa) q else []) x packs (rw t at h) in
      let m = needed-of v k.0 x k.2 in
      let g = has-get packs k.0 k.1 in
      let units : Stands v (units_of k.0) = found-stands v (units_of k.0) m.0 in (
        PackAt g.0,
        record {
          there = has-left (PackAt g.0) (map PackAt (numbers_from 0 (length packs))) _
              (has-map PackAt g.0 (numbers_from 0 (length packs)) (number-has g.0 0 (length packs) (omega arith) (let l = g.2 in omega (arith, l))));
          own = subst (λ o. Stands v (option_map_or units_of o [])) (sym g.1) units;
          next = x;
          waits = w;
          depends = ap (λ o. option_map_or (λ p. node.pack_depends ssa matches p x) o false) g.1 ∙ pack-depends ssa matches k.0 x m.1;
        },
      )

  not-packed : (v : ℕ) → is_packed world packs v ≡ false → not (node.is_packed packs v) ≡ true
  not-packed v f = elim (cases_Bool (node.is_packed packs v)) [
    | inl t ↦ absurd (
        let k = from-flat_map units_of v packs (in-has v (node.packed packs) t) in
        let y : is_packed world packs v ≡ true = any-is (λ q. is_in v (units_of q)) k.0 packs k.1 (has-in v (units_of k.0) k.2) in
        cc)
    | inr g ↦ ap not g
  ]

  own-unit : (v : ℕ) → is_in v (v ∷ []) ≡ true
  own-unit v = has-in v (v ∷ []) (inl refl)

  unit-step : (left : List ℕ) (v x : ℕ) → Has x left → is_unit ssa v ≡ true → is_packed world packs v ≡ false → Has x (needs world packs v) → (n : Node) × IsStep left v n
  unit-step left v x w u f h =
      let inside = unit-inside ssa v u in (
        UnitAt v,
        record {
          there = has-right (UnitAt v) (map PackAt (numbers_from 0 (length packs))) _
              (has-map UnitAt v (filter (λ (y : ℕ). not (node.is_packed packs y)) (numbers_from (arguments ssa) (length ssa.units)))
              (has-filter (λ (y : ℕ). not (node.is_packed packs y)) v (numbers_from (arguments ssa) (length ssa.units))
              (number-has v (arguments ssa) (length ssa.units) inside.0 inside.1) (not-packed v f)));
          own = found-stands v (v ∷ []) (own-unit v);
          next = x;
          waits = w;
          depends = listed-depends ssa v x (rw f at h);
        },
      )

  step-of : (left : List ℕ) → HoldEachOther world packs left → Includes left (falling_units ssa) → (v : ℕ) → Has v left → (n : Node) × IsStep left v n
  step-of left hold inside v h =
      let k = any-found (λ x. is_in x left) (needs world packs v) (hold v h) in
      let w = in-has k.0 left k.2 in
      let u = (from-filter (is_unit ssa) v (numbers_below (arguments ssa + length ssa.units)) (inside v h)).1 in
      elim (cases_Bool (is_packed world packs v)) [
        | inl t ↦ packed-step left v k.0 w t k.1
        | inr f ↦ unit-step left v k.0 w u f k.1
      ]

  -- ---- walks: units with their nodes, the last first

  abbrev LeadsOn : List (ℕ × Node) → ℕ × Node → Type 0
  LeadsOn [] e = Unit {0}
  LeadsOn (f ∷ es) e = node.NodeDepends ssa matches packs f.1 e.1

  abbrev IsWalk : List ℕ → List (ℕ × Node) → Type 0
  IsWalk left [] = Unit {0}
  IsWalk left (e ∷ es) = Has e.0 left × IsStep left e.0 e.1 × LeadsOn es e × IsWalk left es

  abbrev Cycle : Type 0
  Cycle = (ns : List Node) × node.IsCycle ssa matches packs ns

  closed : (left : List ℕ) (es : List (ℕ × Node)) (e t : ℕ × Node) (ns : List Node) → IsWalk left (e ∷ es) → e ≡ t
      → node.LeadsTo ssa matches packs t.1 e.1 ns → AllByRecursion (Contains (node.nodes ssa packs)) ns → Cycle
  closed left es e t ns w same l all =
      let own : node.LeadsTo ssa matches packs e.1 e.1 ns = subst (λ (x : ℕ × Node). node.LeadsTo ssa matches packs x.1 e.1 ns) (sym same) l in
      (e.1 ∷ ns, ((has-contains (node.nodes ssa packs) e.1 w.1.there, all), own))

  -- from the last of a walk back to one of it
  close : (left : List ℕ) (es : List (ℕ × Node)) (e t : ℕ × Node) (ns : List Node) → IsWalk left (e ∷ es) → Has t (e ∷ es)
      → node.LeadsTo ssa matches packs t.1 e.1 ns → AllByRecursion (Contains (node.nodes ssa packs)) ns → Cycle
  close left [] e t ns w h l all = elim h [
    | inl same ↦ closed left [] e t ns w same l all
    | inr none ↦ absurd none
  ]
  close left (f ∷ es) e t ns w h l all = elim h [
    | inl same ↦ closed left (f ∷ es) e t ns w same l all
    | inr k ↦ close left es f t (e.1 ∷ ns) w.3 k (w.2, l) (has-contains (node.nodes ssa packs) e.1 w.1.there, all)
  ]

  -- the entry of a unit of a walk
  entry-of : (x : ℕ) (es : List (ℕ × Node)) → Has x (map (λ (e : ℕ × Node). e.0) es) → (t : ℕ × Node) × Has t es × (t.0 ≡ x)
  entry-of x [] h = absurd h
  entry-of x (e ∷ es) h = elim h [
    | inl same ↦ (e, inl refl, same)
    | inr k ↦ let r = entry-of x es k in (r.0, inr r.1, r.2)
  ]

  step-at : (left : List ℕ) (es : List (ℕ × Node)) (t : ℕ × Node) → IsWalk left es → Has t es → IsStep left t.0 t.1
  step-at left [] t w h = absurd h
  step-at left (e ∷ es) t w h = elim h [
    | inl same ↦ subst (λ (x : ℕ × Node). IsStep left x.0 x.1) same w.1
    | inr k ↦ step-at left es t w.3 k
  ]

  walk-inside : (left : List ℕ) (es : List (ℕ × Node)) → IsWalk left es → Includes (map (λ (e : ℕ × Node). e.0) es) left
  walk-inside left [] w = λ x h. absurd h
  walk-inside left (e ∷ es) w = λ x h. elim h [
    | inl same ↦ subst (λ y. Has y left) same w.0
    | inr k ↦ walk-inside left es w.3 x k
  ]

  units-long : (es : List (ℕ × Node)) → length (map (λ (e : ℕ × Node). e.0) es) ≡ length es
  units-long [] = refl
  units-long (e ∷ es) = ap suc (units-long es)

  abbrev units_on : List (ℕ × Node) → List ℕ
  units_on es = map (λ (e : ℕ × Node). e.0) es

  go : (left : List ℕ) → ((v : ℕ) → Has v left → (n : Node) × IsStep left v n) → (fuel : ℕ) (e : ℕ × Node) (es : List (ℕ × Node))
      → IsWalk left (e ∷ es) → Unique (units_on (e ∷ es)) → length left < fuel + length (e ∷ es) → Cycle
  go left step zero e es w u l =
      let few = unique-length (units_on (e ∷ es)) left u (walk-inside left (e ∷ es) w) in
      let long = units-long (e ∷ es) in
      absurd (omega (arith, few, long, l))
  go left step (suc fuel) e es w u l =
      let s = w.1 in
      let x = s.next in
      elim (cases_Bool (is_in x (units_on (e ∷ es)))) [
        | inl t ↦
            let k = entry-of x (e ∷ es) (in-has x (units_on (e ∷ es)) t) in
            let own = (step-at left (e ∷ es) k.0 w k.1).own in
            let stands : Stands x (node.units_at packs k.0.1) = subst (λ y. Stands y (node.units_at packs k.0.1)) k.2 own in
            close left es e k.0 [] w k.1 (x, stands, s.depends) tt
        | inr f ↦
            let n = step x s.waits in
            let leads : node.NodeDepends ssa matches packs e.1 n.0 = (x, n.1.own, s.depends) in
            let new : Has x (units_on (e ∷ es)) → ⊥ = λ h. (let y = has-in x (units_on (e ∷ es)) h in absurd (cc)) in
            go left step fuel (x, n.0) (e ∷ es) (s.waits, n.1, leads, w) (new, u) (omega (arith, l))
      ]

  pub cycle-from : has_no_cycle world packs ≡ false → Cycle
  cycle-from f =
      let left = left_after world packs (length (falling_units ssa)) (falling_units ssa) in
      let hold = left-holds world packs (length (falling_units ssa)) (falling_units ssa) (omega arith) in
      let inside = left-inside world packs (length (falling_units ssa)) (falling_units ssa) in
      let first = first-of world packs left f in
      let step = step-of left hold inside in
      let n = step first.0 first.1 in
      go left step (length left) (first.0, n.0) [] (first.1, n.1, tt, tt) ((λ h. h), tt) (omega arith)
