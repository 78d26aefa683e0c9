-- The nodes of a plan have no cycle: the units on which the nodes of a cycle depend hold each other back.
use Rattle.std.proofs.Common.{◌≡◌, ℕ, zero, suc, ◌<◌, Bool, true, false, List, [], ◌∷◌, ◌++◌, length, map, Option, Some, None, refl, sym, ap, subst, ◌∙◌, inl, inr, arith}
use Rattle.std.specs.Prelude.{Contains, filter, nat_eq, not, slice_get, if◌then◌else◌}
use Rattle.std.specs.List.{AllByRecursion, filter_map, flat_map, list_any}
use Rattle.std.specs.Option.{option_map_or}
use Rattle.std.proofs.lemmas.Bool.{and_parts, cases_Bool}
use Rattle.std.proofs.lemmas.Bool.Decides.{nat_tests}
use Rattle.vg_plans.specs.Crowded.{IsPlan, empty, more}
use Rattle.vg_plans.specs.Members.{Has}
use Rattle.vg_plans.specs.World.{World, follows, has_no_cycle, is_empty, is_held_back, is_in, is_packed, left_after, needs, stays_plan, tried}
use Rattle.vg_plans.proofs.Members.{Includes, any-found, any-is, from-filter, has-append, has-filter, has-flat}
use Rattle.vg_plans.proofs.Reach.{has-in, in-has}
use Rattle.vg_plans.proofs.Trying.{cycle-other}
use Rattle.vg_shapes.specs.declared.match_table.Match.{Match}
use Rattle.vg_shapes.specs.declared.match_table.Bound.{Bound}
use Rattle.vg_shapes.specs.declared.order.Node.{Node}
use Rattle.vg_shapes.specs.declared.order.Node.TheVariants.{PackAt, UnitAt}
use Rattle.vg_shapes.specs.declared.pack.Pack.{Pack}
use Rattle.vg_shapes.specs.declared.pack.Pack.TheVariants.{Stores, Loads, Call}
use Rattle.vg_shapes.specs.declared.ssa.Ssa.{Ssa}
use Rattle.vg_shapes.specs.declared.wanted.Wanted.{Wanted}
use Rattle.vg_shapes.specs.declared.wanted.Wanted.TheVariants.{Value, Constant, Nothing}
use Rattle.vg_shapes.specs.DepList.{is_listed, row_of}
use Rattle.vg_shapes.specs.Description.{Description}
use Rattle.vg_shapes.specs.Nodes as node
use Rattle.vg_shapes.specs.Order.{numbers_from, Stands}
use Rattle.vg_shapes.specs.Pack.{bounds_from, units_of}
use Rattle.vg_shapes.specs.Units.{arguments, is_unit, is_value}
use Rattle.vg_kernel_plans.specs.Fed.{fed, feeders_by, groups_by, packing_by}
use Rattle.vg_kernel_plans.specs.Packing.{falling_units, needs_of, packing}
use Rattle.vg_kernel_plans.specs.Wants.{value_of}
use Rattle.vg_kernel_plans.proofs.Inside.{units-listed}
use Rattle.vg_order.specs.ByList.{IsCycleBy, LeadsToBy, NameLesser, NameUnits, NodeDependsBy, node_depends_by, pack_depends_by}
use Rattle.vg_order.proofs.Graphs.{stands-found}
use Rattle.vg_plan_orders.specs.Laws.{PlansHaveNoCycle}

-- ---- units that hold each other back, over any packs

module _ {P O N : Type 0} (w : World P O N) where
  -- each of these is held back by one of them
  abbrev HoldEachOther : List P → List ℕ → Type 0
  HoldEachOther plan vs = (v : ℕ) → Has v vs → is_held_back w plan vs v ≡ true

  held-more : (plan : List P) (vs us : List ℕ) (v : ℕ) → Includes vs us → is_held_back w plan vs v ≡ true → is_held_back w plan us v ≡ true
  held-more plan vs us v i t = let k = any-found (λ x. is_in x vs) (needs w plan v) t in any-is (λ x. is_in x us) k.0 (needs w plan v) k.1 (has-in k.0 us (i k.0 (in-has k.0 vs k.2)))

  survive : (plan : List P) (vs : List ℕ) → HoldEachOther plan vs → (rounds : ℕ) (left : List ℕ) → Includes vs left → Includes vs (left_after w plan rounds left)
  survive plan vs h zero left i = i
  survive plan vs h (suc rounds) left i = survive plan vs h rounds (filter (is_held_back w plan left) left) (λ v k. has-filter (is_held_back w plan left) v left (i v k) (held-more plan vs left v i (h v k)))

  not-empty : (vs : List ℕ) (v : ℕ) → Has v vs → is_empty w vs ≡ false
  not-empty [] v h = absurd h
  not-empty (x ∷ vs) v h = refl

  holding-cycle : (plan : List P) (vs : List ℕ) (v : ℕ) → Has v vs → Includes vs w.units → HoldEachOther plan vs → has_no_cycle w plan ≡ false
  holding-cycle plan vs v here i h = not-empty _ v (survive plan vs h (length w.units) w.units i v here)

  -- a plan with a pack has no units that hold each other back
  no-cycle-more : (plan : List P) (p : P) → Has p (follows w plan) → has_no_cycle w (plan ++ p ∷ []) ≡ true
  no-cycle-more plan p h = (and_parts (not (list_any (is_packed w plan) (w.units_of p))) _ (from-filter (stays_plan w plan) p (tried w plan) h).1).1

-- ---- what a node of a kernel depends on

has-value : (x : ℕ) (bounds : List Bound) → list_any (λ b. is_value x b.wanted) bounds ≡ true → Has x (filter_map (λ b. value_of b.wanted) bounds)
has-value x [] e = absurd (cc)
has-value x (b ∷ bounds) e = by b.wanted refl (λ t. has-value x bounds t)
  where
    by : (o : Wanted) → b.wanted ≡ o
        → (list_any (λ c. is_value x c.wanted) bounds ≡ true → Has x (filter_map (λ c. value_of c.wanted) bounds))
        → Has x (filter_map (λ c. value_of c.wanted) (b ∷ bounds))
    by (Value v) o rest = elim (cases_Bool (nat_eq v x)) [
      | inl t ↦ rw o (inl (grind (arith, nat_tests, t)))
      | inr f ↦ rw o (inr (rest (let g = rw (o, f) at e in g)))
    ]
    by (Constant w n) o rest = rw o (rest (let g = rw o at e in g))
    by Nothing o rest = rw o (rest (let g = rw o at e in g))

rows-have : (deps : List (ℕ × ℕ)) (us : List ℕ) (x : ℕ) → list_any (λ u. is_listed deps u x) us ≡ true → Has x (flat_map (row_of deps) us)
rows-have deps us x e =
    let k = any-found (λ u. is_listed deps u x) us e in
    has-flat (row_of deps) k.0 x us k.1 (in-has x (row_of deps k.0) k.2)

pack-needs : (deps : List (ℕ × ℕ)) (ssa : Ssa) (matches : List Match) (p : Pack) (x : ℕ) → pack_depends_by deps ssa matches p x ≡ true → Has x (needs_of matches ssa deps p)
pack-needs deps ssa matches (Stores us) x e = rows-have deps us x e
pack-needs deps ssa matches (Loads us) x e = rows-have deps us x e
pack-needs deps ssa matches (Call d lanes) x e =
    let parts = and_parts (is_unit ssa x) _ e in
    has-filter (is_unit ssa) x _ (has-value x (bounds_from matches d 0 lanes) parts.1) parts.0

pack-names : (deps : List (ℕ × ℕ)) (ssa : Ssa) (matches : List Match) (p : Pack) (x : ℕ) → NameUnits ssa deps → pack_depends_by deps ssa matches p x ≡ true → is_unit ssa x ≡ true
pack-names deps ssa matches (Stores us) x names e = let k = any-found (λ u. is_listed deps u x) us e in names k.0 x k.2
pack-names deps ssa matches (Loads us) x names e = let k = any-found (λ u. is_listed deps u x) us e in names k.0 x k.2
pack-names deps ssa matches (Call d lanes) x names e = (and_parts (is_unit ssa x) _ e).0

node-names : (deps : List (ℕ × ℕ)) (ssa : Ssa) (matches : List Match) (packs : List Pack) (n : Node) (x : ℕ) → NameUnits ssa deps → node_depends_by deps ssa matches packs n x ≡ true → is_unit ssa x ≡ true
node-names deps ssa matches packs (UnitAt v) x names e = names v x e
node-names deps ssa matches packs (PackAt k) x names e = by (slice_get packs k) e
  where
    by : (o : Option Pack) → option_map_or (λ p. pack_depends_by deps ssa matches p x) o false ≡ true → is_unit ssa x ≡ true
    by None e = absurd (cc)
    by (Some p) e = pack-names deps ssa matches p x names e

got-has : {A : Type 0} (xs : List A) (k : ℕ) (x : A) → slice_get xs k ≡ Some x → Has x xs
got-has [] k x e = absurd (cc)
got-has (y ∷ ys) zero x e = inl (cc)
got-has (y ∷ ys) (suc k) x e = inr (got-has ys k x e)

standing-in : (x : ℕ) (ys : List ℕ) → Stands x ys → is_in x ys ≡ true
standing-in x ys s = stands-found x ys s

-- a unit of a pack
packed-in : (packs : List Pack) (p : Pack) (v : ℕ) → Has p packs → is_in v (units_of p) ≡ true → list_any (λ q. is_in v (units_of q)) packs ≡ true
packed-in packs p v h t = any-is (λ q. is_in v (units_of q)) p packs h t

-- a unit outside packs, by the two words for that
unpacked : (packs : List Pack) (v : ℕ) → node.is_packed packs v ≡ false → list_any (λ q. is_in v (units_of q)) packs ≡ false
unpacked packs v f = elim (cases_Bool (list_any (λ q. is_in v (units_of q)) packs)) [
  | inl t ↦ absurd (
      let k = any-found (λ q. is_in v (units_of q)) packs t in
      let h = has-flat units_of k.0 v packs k.1 (in-has v (units_of k.0) k.2) in
      let yes : node.is_packed packs v ≡ true = has-in v (node.packed packs) h in
      cc)
  | inr e ↦ e
]

-- a node of packs, as what is asked of its unit
abbrev IsNodeOf : List Pack → Node → Type 0
IsNodeOf packs (PackAt k) = Unit {0}
IsNodeOf packs (UnitAt v) = node.is_packed packs v ≡ false

module _ (ds : List Description) (matches : List Match) (ssa : Ssa) (deps : List (ℕ × ℕ)) (packs : List Pack) where
  -- a unit of a node needs all units on which the node depends
  node-needs : (n : Node) (x z : ℕ) → IsNodeOf packs n → Stands x (node.units_at packs n) → node_depends_by deps ssa matches packs n z ≡ true
      → Has z (needs (packing ds matches ssa deps) packs x)
  node-needs (UnitAt v) x z is s e =
      let same : x ≡ v = one-of x v s in
      let f : is_packed (packing ds matches ssa deps) packs x ≡ false = ap (λ u. list_any (λ q. is_in u (units_of q)) packs) same ∙ unpacked packs v is in
      rw f (subst (λ u. Has z (row_of deps u)) (sym same) (in-has z (row_of deps v) e))
    where
      one-of : (x v : ℕ) → Stands x (v ∷ []) → x ≡ v
      one-of x v s = elim (in-has x (v ∷ []) (stands-found x (v ∷ []) s)) [ inl e ↦ sym e | inr n ↦ absurd n ]
  node-needs (PackAt k) x z is s e = by (slice_get packs k) refl s e
    where
      by : (o : Option Pack) → slice_get packs k ≡ o → Stands x (option_map_or units_of o []) → option_map_or (λ p. pack_depends_by deps ssa matches p z) o false ≡ true
          → Has z (needs (packing ds matches ssa deps) packs x)
      by None o s e = absurd (cc)
      by (Some p) o s e =
          let here = got-has packs k p o in
          let mine = standing-in x (units_of p) s in
          let t : is_packed (packing ds matches ssa deps) packs x ≡ true = packed-in packs p x here mine in
          let part : Has z (if is_in x (units_of p) then needs_of matches ssa deps p else []) = rw mine (pack-needs deps ssa matches p z e) in
          rw t (has-flat (λ q. if is_in x (units_of q) then needs_of matches ssa deps q else []) p z packs here part)

  -- the units by which each node leads to the next
  abbrev steps : (last n : Node) (ns : List Node) → LeadsToBy deps ssa matches packs last n ns → List ℕ
  steps last n [] l = l.0 ∷ []
  steps last n (m ∷ ms) l = l.0.0 ∷ steps last m ms l.1

  -- the first of them, on which the first node depends
  first-step : (last n : Node) (ns : List Node) (l : LeadsToBy deps ssa matches packs last n ns)
      → (z : ℕ) × Has z (steps last n ns l) × (node_depends_by deps ssa matches packs n z ≡ true)
  first-step last n [] l = (l.0, inl refl, l.2)
  first-step last n (m ∷ ms) l = (l.0.0, inl refl, l.0.2)

  held : (x z : ℕ) (n : Node) (vs : List ℕ) → IsNodeOf packs n → Stands x (node.units_at packs n) → node_depends_by deps ssa matches packs n z ≡ true → Has z vs
      → is_held_back (packing ds matches ssa deps) packs vs x ≡ true
  held x z n vs is s e h =
      any-is (λ y. is_in y vs) z (needs (packing ds matches ssa deps) packs x) (node-needs n x z is s e) (has-in z vs h)

  steps-held : (last n : Node) (ns : List Node) (l : LeadsToBy deps ssa matches packs last n ns) (vs : List ℕ) (z : ℕ)
      → IsNodeOf packs last → AllByRecursion (IsNodeOf packs) ns → Includes (steps last n ns l) vs
      → node_depends_by deps ssa matches packs last z ≡ true → Has z vs
      → (x : ℕ) → Has x (steps last n ns l) → is_held_back (packing ds matches ssa deps) packs vs x ≡ true
  steps-held last n [] l vs z is are sub e h = λ x k. elim k [
    | inl same ↦ subst (λ y. is_held_back (packing ds matches ssa deps) packs vs y ≡ true) same (held l.0 z last vs is l.1 e h)
    | inr none ↦ absurd none
  ]
  steps-held last n (m ∷ ms) l vs z is are sub e h =
      let next = first-step last m ms l.1 in
      λ x k. elim k [
        | inl same ↦ subst (λ y. is_held_back (packing ds matches ssa deps) packs vs y ≡ true) same
            (held l.0.0 next.0 m vs are.0 l.0.1 next.2 (sub next.0 (inr next.1)))
        | inr rest ↦ steps-held last m ms l.1 vs z is are.1 (λ y q. sub y (inr q)) e h x rest
      ]

  steps-named : (last n : Node) (ns : List Node) (l : LeadsToBy deps ssa matches packs last n ns) → NameUnits ssa deps
      → Includes (steps last n ns l) (falling_units ssa)
  steps-named last n [] l names = λ x k. elim k [
    | inl same ↦ subst (λ y. Has y (falling_units ssa)) same (units-listed ssa l.0 (node-names deps ssa matches packs n l.0 names l.2))
    | inr none ↦ absurd none
  ]
  steps-named last n (m ∷ ms) l names = λ x k. elim k [
    | inl same ↦ subst (λ y. Has y (falling_units ssa)) same (units-listed ssa l.0.0 (node-names deps ssa matches packs n l.0.0 names l.0.2))
    | inr rest ↦ steps-named last m ms l.1 names x rest
  ]

  cycle-held : (n : Node) (ns : List Node) → NameUnits ssa deps → AllByRecursion (IsNodeOf packs) (n ∷ ns) → LeadsToBy deps ssa matches packs n n ns
      → has_no_cycle (packing ds matches ssa deps) packs ≡ false
  cycle-held n ns names are l =
      let vs = steps n n ns l in
      let z = first-step n n ns l in
      holding-cycle (packing ds matches ssa deps) packs vs z.0 z.1 (steps-named n n ns l names)
      (steps-held n n ns l vs z.0 are.0 are.1 (λ y q. q) z.2 z.1)

-- ---- nodes

contains-has : {A : Type 0} (xs : List A) (x : A) → Contains xs x → Has x xs
contains-has [] x c = absurd (omega (arith, c.1))
contains-has (y ∷ ys) x (zero, less, e) = inl e
contains-has (y ∷ ys) x (suc k, less, e) = inr (contains-has ys x (k, (omega (arith, less)), e))

no-pack : (ks : List ℕ) (v : ℕ) → Has (UnitAt v) (map PackAt ks) → ⊥
no-pack [] v h = h
no-pack (k ∷ ks) v h = elim h [ inl e ↦ absurd (cc) | inr r ↦ no-pack ks v r ]

from-units : (vs : List ℕ) (v : ℕ) → Has (UnitAt v) (map UnitAt vs) → Has v vs
from-units [] v h = h
from-units (u ∷ vs) v h = elim h [ inl e ↦ inl (cc) | inr r ↦ inr (from-units vs v r) ]

node-of : (ssa : Ssa) (packs : List Pack) (n : Node) → Contains (node.nodes ssa packs) n → IsNodeOf packs n
node-of ssa packs (PackAt k) c = tt
node-of ssa packs (UnitAt v) c =
    let numbers = numbers_from (arguments ssa) (length ssa.units) in
    let outside = λ (u : ℕ). not (node.is_packed packs u) in
    elim (has-append (UnitAt v) (map PackAt (numbers_from 0 (length packs))) (map UnitAt (filter outside numbers)) (contains-has _ _ c)) [
      | inl h ↦ absurd (no-pack (numbers_from 0 (length packs)) v h)
      | inr h ↦ not-true (node.is_packed packs v) (from-filter outside v numbers (from-units (filter outside numbers) v h)).1
    ]
  where
    not-true : (b : Bool) → not b ≡ true → b ≡ false
    not-true true e = absurd (cc)
    not-true false e = refl

nodes-of : (ssa : Ssa) (packs : List Pack) (ns : List Node) → AllByRecursion (Contains (node.nodes ssa packs)) ns → AllByRecursion (IsNodeOf packs) ns
nodes-of ssa packs [] h = tt
nodes-of ssa packs (n ∷ ns) h = (node-of ssa packs n h.0, nodes-of ssa packs ns h.1)

-- ---- without packs each node of a chain leads to one of a lesser number

number_of : Node → ℕ
number_of (PackAt k) = 0
number_of (UnitAt v) = v

lesser : (deps : List (ℕ × ℕ)) (ssa : Ssa) (matches : List Match) (n m : Node) → NameLesser deps → NodeDependsBy deps ssa matches [] n m → number_of m < number_of n
unfolding number_of
lesser deps ssa matches (PackAt k) m less d = absurd (cc)
lesser deps ssa matches (UnitAt v) (PackAt k) less d = absurd (omega (arith, d.1))
lesser deps ssa matches (UnitAt v) (UnitAt u) less d =
    elim (in-has d.0 (u ∷ []) (stands-found d.0 (u ∷ []) d.1)) [
      | inl same ↦ subst (λ x. x < v) (sym same) (less v d.0 d.2)
      | inr none ↦ absurd none
    ]

chain-lesser : (deps : List (ℕ × ℕ)) (ssa : Ssa) (matches : List Match) (last n : Node) (ns : List Node) → NameLesser deps → LeadsToBy deps ssa matches [] last n ns → number_of last < number_of n
chain-lesser deps ssa matches last n [] less l = lesser deps ssa matches n last less l
chain-lesser deps ssa matches last n (m ∷ ms) less l =
    let one = lesser deps ssa matches n m less l.0 in
    let rest = chain-lesser deps ssa matches last m ms less l.1 in
    omega arith

-- ---- plans

pub plans-have-no-cycle : PlansHaveNoCycle
plans-have-no-cycle ds matches ssa deps plan [] names less is c = c
plans-have-no-cycle ds matches ssa deps plan (n ∷ ns) names less is c = by plan is c
  where
    by : (plan : List Pack) → IsPlan (follows (packing_by fed ds matches ssa deps)) plan → IsCycleBy deps ssa matches plan (n ∷ ns) → ⊥
    by _ empty c = let below = chain-lesser deps ssa matches n n ns less c.1 in omega arith
    by _ (more before p is h) c =
        let held = cycle-held ds matches ssa deps (before ++ p ∷ []) n ns names (nodes-of ssa (before ++ p ∷ []) (n ∷ ns) c.0) c.1 in
        let free = no-cycle-more (packing_by fed ds matches ssa deps) before p h in
        let same = cycle-other (packing ds matches ssa deps) (groups_by fed ssa) (feeders_by fed ssa) (before ++ p ∷ []) in
        let none : has_no_cycle (packing ds matches ssa deps) (before ++ p ∷ []) ≡ true = sym same ∙ free in
        cc
