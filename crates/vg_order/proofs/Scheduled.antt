-- Where the numbers of nodes are next, so are the nodes.
use Rattle.std.proofs.Common.{◌≡◌, ◌≢◌, ℕ, zero, suc, ◌+◌, ◌-◌, ◌<◌, ◌≤◌, Bool, true, false, List, [], ◌∷◌, ◌++◌, length, map, Option, Some, None, refl, sym, ap, subst, ◌∙◌, inl, inr, arith, append-nil, get_or}
use Rattle.std.specs.Prelude.{filter, nat_eq, nat_le, nat_lt, not, slice_get, slice_index, slice_index_or, ◌==◌, ◌&&◌, ◌||◌}
use Rattle.std.specs.List.{concat, cons_option, filter_map, find, flat_map, list_any, position_or_len}
use Rattle.std.specs.Option.{option_map, option_map_or}
use Rattle.std.proofs.lemmas.Bool.{and_from, and_parts, cases_Bool, cases_eq, cases_lt, cond-false, cond-true, eq-eqb, le-leb, le-ltb, leb-true, lt-ltb, ltb-true, ne_eqb, or_right, true≢false}
use Rattle.std.proofs.lemmas.List.{get_or-append_right, get_or-map, get_or_append_left, get_or_default, length-append, length-map, map-append}
use Rattle.std.proofs.lemmas.List.Sorted.{IsPermutation-refl}
use Rattle.std.proofs.lemmas.List.Sums.{fails_before_first, passes_at_first}
use Rattle.std.proofs.lemmas.Option.{slice_get_past}
use Rattle.vg_shapes.specs.declared.match_table.Bound.{Bound}
use Rattle.vg_shapes.specs.declared.match_table.Match.{Match}
use Rattle.vg_shapes.specs.declared.order.Node.{Node}
use Rattle.vg_shapes.specs.declared.order.Node.TheVariants.{PackAt, UnitAt}
use Rattle.vg_shapes.specs.declared.pack.Pack.{Pack}
use Rattle.vg_shapes.specs.declared.pack.Pack.TheVariants.{Stores, Loads, Call}
use Rattle.vg_shapes.specs.declared.ssa.Ssa.{Ssa}
use Rattle.vg_shapes.specs.declared.wanted.Wanted.{Wanted}
use Rattle.vg_shapes.specs.declared.wanted.Wanted.TheVariants.{Value, Constant, Nothing}
use Rattle.vg_shapes.specs.DepList.{row_of}
use Rattle.vg_shapes.specs.Nodes.{ArePacks, is_packed, nodes, units_at}
use Rattle.vg_shapes.specs.Order.{all_units, count_of, numbers_from, one_if, Stands}
use Rattle.vg_shapes.specs.Pack.{bounds_from, units_of}
use Rattle.vg_shapes.specs.Units.{arguments, is_unit}
use Rattle.vg_order_laws.proofs.Plans.{nodes-have_units}
use Rattle.vg_order.specs.declared.graph.Graph.{Graph}
use Rattle.vg_order.specs.declared.needs.Needs.TheVariants.{Those}
use Rattle.vg_order.specs.ByList.{NameUnits}
use Rattle.vg_order.specs.Graphs.{IsGraphOf, node_at, node_needs, pack_needs, unit_in, units_among}
use Rattle.vg_order.specs.Needs.{rows_of}
use Rattle.vg_order.specs.NextNumbers.{AreNext, EndsAt, IsFirstLeft, IsNextOfRest, IsNextOfUnits}
use Rattle.vg_order.specs.Paths.{home_at, IsGraph, IsInside, IsOrdered, needs_at}
use Rattle.vg_order.specs.Scheduled.{EachIsNext, first_open, is_before, is_pack, IsNext, IsNextFrom, IsScheduled, LeadsDown, node_of, node_waits, pack_waits, value_wanted}
use Rattle.vg_order.proofs.Building.{pack-units}
use Rattle.vg_order.proofs.Counts.{count_of-append, stands-append}
use Rattle.vg_order.proofs.Cycles.{units-once}
use Rattle.vg_order.proofs.Dependences.{end_of, inside-unit, is-graph, long-needs, needs-are}
use Rattle.vg_order.proofs.Graphs.{found-stands, length-numbers, none-found, numbers-at, stands-found, unit-inside}
use Rattle.vg_order.proofs.Orders.{done-units, graph-order, only-one}
use Rattle.vg_order.proofs.Places.{at-found, one-place}
use Rattle.vg_order.proofs.Rising.{count_of-before, count_of-past}

-- ---- what is found first

head-stands : (u : ℕ) (us : List ℕ) → Stands u (u ∷ us)
head-stands u us = let one : one_if (u == u) ≡ 1 = ap one_if (eq-eqb u u refl) in omega arith

find-none : (test : ℕ → Bool) (us : List ℕ) → ((y : ℕ) → Stands y us → test y ≡ false) → find test us ≡ None
find-none test [] h = refl
find-none test (u ∷ us) h = cond-false _ _ _ (h u (head-stands u us)) ∙ find-none test us (λ y s. h y (omega arith))

find-first : (test : ℕ → Bool) (front rest : List ℕ) (x : ℕ) → ((y : ℕ) → Stands y front → test y ≡ false) → test x ≡ true → find test (front ++ x ∷ rest) ≡ Some x
find-first test [] rest x h t = cond-true _ _ _ t
find-first test (u ∷ front) rest x h t = cond-false _ _ _ (h u (head-stands u front)) ∙ find-first test front rest x (λ y s. h y (omega arith)) t

find-number : (test : ℕ → Bool) (first n x : ℕ) → first ≤ x → x < first + n → ((y : ℕ) → first ≤ y → y < x → test y ≡ false) → test x ≡ true → find test (numbers_from first n) ≡ Some x
find-number test first zero x low high h t = absurd (omega arith)
find-number test first (suc n) x low high h t = elim (cases_eq first x) [
  | inl same ↦ cond-true _ _ _ (ap test same ∙ t) ∙ ap Some same
  | inr other ↦ cond-false _ _ _ (h first (omega arith) (omega arith)) ∙ find-number test (first + 1) n x (omega arith) (omega arith) (λ y l b. h y (omega arith) b) t
]

number-inside : (x first n : ℕ) → Stands x (numbers_from first n) → (first ≤ x) × (x < first + n)
number-inside x first n s = elim (cases_lt x first) [
  | inl below ↦ absurd (let none = count_of-before x first n below in omega arith)
  | inr low ↦ elim (cases_lt x (first + n)) [
    | inl high ↦ (low, high)
    | inr past ↦ absurd (let none = count_of-past x first n past in omega arith)
  ]
]

-- ---- for which units a node waits

unit-test : (ssa : Ssa) (x : ℕ) → (nat_le (arguments ssa) x && nat_lt x (end_of ssa)) ≡ is_unit ssa x
unit-test ssa x = elim (cases_Bool (is_unit ssa x)) [
  | inl t ↦ (let at = unit-inside ssa x t in and_from _ _ (le-leb (arguments ssa) x at.0) (lt-ltb x (end_of ssa) at.1) ∙ sym t)
  | inr f ↦ elim (cases_Bool (nat_le (arguments ssa) x && nat_lt x (end_of ssa))) [
    | inl both ↦
        let parts = and_parts _ _ both in
        absurd (true≢false (sym (inside-unit ssa x (leb-true (arguments ssa) x parts.0) (ltb-true x (end_of ssa) parts.1)) ∙ f))
    | inr none ↦ none ∙ sym f
  ]
]

one-among : (ssa : Ssa) (w : Wanted) (left right : List ℕ) → left ≡ filter (is_unit ssa) right
    → cons_option (unit_in (arguments ssa) (end_of ssa) w) left ≡ filter (is_unit ssa) (cons_option (value_wanted w) right)
one-among ssa (Constant width n) left right e = e
one-among ssa Nothing left right e = e
one-among ssa (Value x) left right e = elim (cases_Bool (is_unit ssa x)) [
  | inl t ↦ ap (λ o. cons_option o left) (cond-true _ _ _ (unit-test ssa x ∙ t)) ∙ ap (λ l. x ∷ l) e ∙ sym (cond-true _ _ _ t)
  | inr f ↦ ap (λ o. cons_option o left) (cond-false _ _ _ (unit-test ssa x ∙ f)) ∙ e ∙ sym (cond-false _ _ _ f)
]

among-are : (ssa : Ssa) (bounds : List Bound) → units_among (arguments ssa) (end_of ssa) bounds ≡ filter (is_unit ssa) (filter_map (λ b. value_wanted b.wanted) bounds)
among-are ssa [] = refl
among-are ssa (b ∷ bounds) = one-among ssa b.wanted _ _ (among-are ssa bounds)

rows-flat : (deps : List (ℕ × ℕ)) (us : List ℕ) → concat (map (row_of deps) us) ≡ flat_map (row_of deps) us
rows-flat deps [] = refl
rows-flat deps (u ∷ us) = ap (λ l. row_of deps u ++ l) (rows-flat deps us)

pack-waits : (deps : List (ℕ × ℕ)) (ssa : Ssa) (matches : List Match) (p : Pack) → concat (rows_of deps (pack_needs (arguments ssa) (end_of ssa) matches p)) ≡ pack_waits deps ssa matches p
pack-waits deps ssa matches (Stores us) = rows-flat deps us
pack-waits deps ssa matches (Loads us) = rows-flat deps us
pack-waits deps ssa matches (Call d lanes) = append-nil (units_among (arguments ssa) (end_of ssa) (bounds_from matches d 0 lanes)) ∙ among-are ssa (bounds_from matches d 0 lanes)

node-waits : (deps : List (ℕ × ℕ)) (ssa : Ssa) (matches : List Match) (packs : List Pack) (q : Node) → concat (rows_of deps (node_needs (arguments ssa) (end_of ssa) matches packs q)) ≡ node_waits deps ssa matches packs q
node-waits deps ssa matches packs (UnitAt v) = append-nil (row_of deps v)
node-waits deps ssa matches packs (PackAt k) = by (slice_get packs k)
  where
    by : (o : Option Pack) → concat (rows_of deps (option_map_or (pack_needs (arguments ssa) (end_of ssa) matches) o (Those []))) ≡ option_map_or (pack_waits deps ssa matches) o []
    by None = refl
    by (Some p) = pack-waits deps ssa matches p

waits-are : (deps : List (ℕ × ℕ)) (ssa : Ssa) (matches : List Match) (packs : List Pack) (g : Graph) (n : ℕ) → IsGraphOf ssa matches packs g → n < length g.nodes
    → needs_at deps g n ≡ node_waits deps ssa matches packs (node_at g n)
waits-are deps ssa matches packs g n is h = needs-are deps ssa matches packs g n is h ∙ node-waits deps ssa matches packs (node_at g n)

-- ---- nodes by number

abbrev units_outside : Ssa → List Pack → List ℕ
units_outside ssa packs = filter (λ v. not (is_packed packs v)) (numbers_from (arguments ssa) (length ssa.units))

so-many : (packs : List Pack) → length (map PackAt (numbers_from 0 (length packs))) ≡ length packs
so-many packs = length-map (numbers_from 0 (length packs)) PackAt ∙ length-numbers 0 (length packs)

pack-node : (ssa : Ssa) (matches : List Match) (packs : List Pack) (g : Graph) (n : ℕ) → IsGraphOf ssa matches packs g → n < length packs → node_at g n ≡ PackAt n
pack-node ssa matches packs g n is h =
    let long = so-many packs in
    let count = length-numbers 0 (length packs) in
    ap (λ (l : List Node). slice_index_or l n (UnitAt 0)) is.nodes
    ∙ get_or_append_left (map PackAt (numbers_from 0 (length packs))) (map UnitAt (units_outside ssa packs)) (UnitAt 0) n (omega arith)
    ∙ get_or-map PackAt (numbers_from 0 (length packs)) n 0 (UnitAt 0) (omega arith)
    ∙ ap PackAt (numbers-at 0 (length packs) n h ∙ (let e : 0 + n ≡ n = omega arith in e))

unit-node : (ssa : Ssa) (matches : List Match) (packs : List Pack) (g : Graph) (n : ℕ) → IsGraphOf ssa matches packs g → length packs ≤ n → n < length g.nodes
    → node_at g n ≡ UnitAt (slice_index (units_outside ssa packs) (n - length packs))
unit-node ssa matches packs g n is low high =
    let long = so-many packs in
    let total = ap length is.nodes ∙ length-append (map PackAt (numbers_from 0 (length packs))) (map UnitAt (units_outside ssa packs)) in
    let rest = length-map (units_outside ssa packs) UnitAt in
    ap (λ (l : List Node). slice_index_or l n (UnitAt 0)) is.nodes
    ∙ get_or-append_right (map PackAt (numbers_from 0 (length packs))) (map UnitAt (units_outside ssa packs)) (length packs) n (UnitAt 0) long low
    ∙ get_or-map UnitAt (units_outside ssa packs) (n - length packs) 0 (UnitAt 0) (omega arith)

-- the node that has a unit
one-home : (ssa : Ssa) (matches : List Match) (packs : List Pack) (g : Graph) (m x : ℕ) → ArePacks ssa packs → IsGraphOf ssa matches packs g → m < length g.nodes → IsInside g x
    → Stands x (units_at packs (node_at g m)) → m ≡ home_at g x
one-home ssa matches packs g m x good is h inside s =
    let at = is.homes x inside in
    let few : count_of x (all_units (units_at packs) g.nodes) < 2 =
    subst (λ l. count_of x (all_units (units_at packs) l) < 2) (sym is.nodes) (units-once ssa packs (nodes ssa packs) x good (IsPermutation-refl (nodes ssa packs))) in
    one-place (units_at packs) (UnitAt 0) x g.nodes m (home_at g x) few h at.0 s at.1

abbrev has : ℕ → Pack → Bool
has x p = list_any (nat_eq x) (units_of p)

-- what a pack has that stands in the list
at-pack : (packs : List Pack) (x k : ℕ) → Stands x (units_at packs (PackAt k)) → (k < length packs) × (has x (get_or packs k (Stores [])) ≡ true)
at-pack packs x k s = elim (cases_lt k (length packs)) [
  | inr past ↦ absurd (let none : count_of x (units_at packs (PackAt k)) ≡ 0 = ap (λ o. count_of x (option_map_or units_of o [])) (slice_get_past packs k past) in omega arith)
  | inl h ↦
      let q = get_or packs k (Stores []) in
      (h, stands-found x (units_of q) (subst (Stands x) (pack-units packs k q h (get_or_default packs k (Stores []) q h)) s))
]

node_of-is : (ssa : Ssa) (matches : List Match) (packs : List Pack) (g : Graph) (x : ℕ) → ArePacks ssa packs → IsGraphOf ssa matches packs g → IsInside g x → node_of packs x ≡ node_at g (home_at g x)
node_of-is ssa matches packs g x good is inside =
    let k = position_or_len (has x) packs in
    let at = is.homes x inside in
    elim (cases_lt k (length packs)) [
      | inl h ↦
          let q = get_or packs k (Stores []) in
          let here : Stands x (units_at packs (PackAt k)) =
          subst (Stands x) (sym (pack-units packs k q h (get_or_default packs k (Stores []) q h))) (found-stands x (units_of q) (passes_at_first (has x) packs (Stores []) h)) in
          let node = pack-node ssa matches packs g k is h in
          let inside_nodes : k < length g.nodes = (
          let long = so-many packs in
          let total = ap length is.nodes ∙ length-append (map PackAt (numbers_from 0 (length packs))) (map UnitAt (units_outside ssa packs)) in
          omega arith) in
          ap (λ o. option_map_or PackAt o (UnitAt x)) (cond-true _ _ _ (lt-ltb k (length packs) h))
          ∙ sym node ∙ ap (node_at g) (one-home ssa matches packs g k x good is inside_nodes inside (subst (λ n. Stands x (units_at packs n)) (sym node) here))
      | inr past ↦
          ap (λ o. option_map_or PackAt o (UnitAt x)) (cond-false _ _ _ (le-ltb k (length packs) past)) ∙ alone (node_at g (home_at g x)) at.1 past
    ]
  where
    alone : (n : Node) → Stands x (units_at packs n) → length packs ≤ position_or_len (has x) packs → UnitAt x ≡ n
    alone (UnitAt v) s past = ap UnitAt (only-one x v s)
    alone (PackAt j) s past =
        let there = at-pack packs x j s in
        absurd (true≢false (sym there.1 ∙ fails_before_first (has x) packs j (Stores []) (let h = there.0 in omega arith)))

-- ---- units that stand before

abbrev Within : Graph → List ℕ → Type 0
Within g done = (m : ℕ) → Stands m done → m < length g.nodes

before-true : (ssa : Ssa) (matches : List Match) (packs : List Pack) (g : Graph) (done : List ℕ) (x : ℕ) → IsGraphOf ssa matches packs g → IsInside g x → Stands (home_at g x) done
    → is_before packs (map (node_at g) done) x ≡ true
before-true ssa matches packs g done x is inside s =
    stands-found x (all_units (units_at packs) (map (node_at g) done)) (done-units packs (node_at g) (home_at g x) x done s (is.homes x inside).1)

stood : (packs : List Pack) (g : Graph) (done : List ℕ) (x : ℕ) → Stands x (all_units (units_at packs) (map (node_at g) done)) → (m : ℕ) × Stands m done × Stands x (units_at packs (node_at g m))
stood packs g [] x s = absurd (omega arith)
stood packs g (n ∷ done) x s = elim (stands-append x (units_at packs (node_at g n)) (all_units (units_at packs) (map (node_at g) done)) s) [
  | inl here ↦ (n, head-stands n done, here)
  | inr rest ↦ (let found = stood packs g done x rest in (found.0, (let b = found.1 in omega arith), found.2))
]

before-false : (ssa : Ssa) (matches : List Match) (packs : List Pack) (g : Graph) (done : List ℕ) (x : ℕ) → ArePacks ssa packs → IsGraphOf ssa matches packs g → IsInside g x → Within g done
    → count_of (home_at g x) done ≡ 0 → is_before packs (map (node_at g) done) x ≡ false
before-false ssa matches packs g done x good is inside within none =
    let all = all_units (units_at packs) (map (node_at g) done) in
    none-found x all (elim (cases_lt 0 (count_of x all)) [
      | inr past ↦ omega arith
      | inl s ↦ absurd (
          let found = stood packs g done x s in
          let same = one-home ssa matches packs g found.0 x good is (within found.0 found.1) inside found.2 in
          let here : Stands (home_at g x) done = subst (λ m. Stands m done) same found.1 in
          omega arith)
    ])

open-first : (ssa : Ssa) (matches : List Match) (packs : List Pack) (g : Graph) (done us : List ℕ) (x : ℕ) → ArePacks ssa packs → IsGraphOf ssa matches packs g → Within g done
    → ((y : ℕ) → Stands y us → IsInside g y) → IsFirstLeft (home_at g) done us x → first_open packs (map (node_at g) done) us ≡ Some x
open-first ssa matches packs g done us x good is within inside first =
    let front = first.0 in
    let rest = first.1 in
    let there : (y : ℕ) → Stands y (front ++ x ∷ rest) → IsInside g y = λ y s. inside y (subst (Stands y) (sym first.2) s) in
    let here : Stands x (front ++ x ∷ rest) = (let sum = count_of-append x front (x ∷ rest) in let head = head-stands x rest in omega arith) in
    ap (find (λ y. not (is_before packs (map (node_at g) done) y))) first.2
    ∙ find-first (λ y. not (is_before packs (map (node_at g) done) y)) front rest x
    (λ y s. ap not (before-true ssa matches packs g done y is (there y (let sum = count_of-append y front (x ∷ rest) in omega arith)) (first.3 y s)))
    (ap not (before-false ssa matches packs g done x good is (there x here) within first.4))

open-none : (ssa : Ssa) (matches : List Match) (packs : List Pack) (g : Graph) (done us : List ℕ) → IsGraphOf ssa matches packs g
    → ((y : ℕ) → Stands y us → IsInside g y) → ((y : ℕ) → Stands y us → Stands (home_at g y) done) → first_open packs (map (node_at g) done) us ≡ None
open-none ssa matches packs g done us is inside all =
    find-none (λ y. not (is_before packs (map (node_at g) done) y)) us (λ y s. ap not (before-true ssa matches packs g done y is (inside y s) (all y s)))

-- ---- the way down

ends-lead : (deps : List (ℕ × ℕ)) (ssa : Ssa) (matches : List Match) (packs : List Pack) (g : Graph) (done : List ℕ) (n : ℕ) (us : List ℕ) (last : ℕ)
    → ArePacks ssa packs → IsGraphOf ssa matches packs g → IsGraph deps g → Within g done → n < length g.nodes
    → EndsAt (needs_at deps g) (home_at g) done n us last → LeadsDown deps ssa matches packs (map (node_at g) done) (node_at g n) us (node_at g last)
ends-lead deps ssa matches packs g done n [] last good is graph within h ends = (
  ap (node_at g) ends.0,
  ap (first_open packs (map (node_at g) done)) (sym (waits-are deps ssa matches packs g n is h))
      ∙ open-none ssa matches packs g done (needs_at deps g n) is (graph.units n) ends.1,
)
ends-lead deps ssa matches packs g done n (x ∷ us) last good is graph within h ends =
    let first = ends.0 in
    let here : Stands x (needs_at deps g n) = subst (Stands x) (sym first.2) (let sum = count_of-append x first.0 (x ∷ first.1) in let head = head-stands x first.1 in omega arith) in
    let inside = graph.units n x here in (
      ap (first_open packs (map (node_at g) done)) (sym (waits-are deps ssa matches packs g n is h))
          ∙ open-first ssa matches packs g done (needs_at deps g n) x good is within (graph.units n) first,
      subst (λ m. LeadsDown deps ssa matches packs (map (node_at g) done) m us (node_at g last)) (sym (node_of-is ssa matches packs g x good is inside))
          (ends-lead deps ssa matches packs g done (home_at g x) us last good is graph within (is.homes x inside).0 ends.1),
    )

next-of_units : (deps : List (ℕ × ℕ)) (ssa : Ssa) (matches : List Match) (packs : List Pack) (g : Graph) (done : List ℕ) (n : ℕ)
    → ArePacks ssa packs → IsGraphOf ssa matches packs g → IsGraph deps g → Within g done → IsNextOfUnits deps g done n
    → IsNext deps ssa matches packs (map (node_at g) done) (node_at g n)
next-of_units deps ssa matches packs g done n good is graph within next =
    let u = next.0 in
    let before = map (node_at g) done in
    let first = is.first in
    let long = is.long in
    let low = next.2 in
    let high = next.3 in
    let inside : IsInside g u = (low, high) in
    let least : first_open packs before (numbers_from (arguments ssa) (length ssa.units)) ≡ Some u =
    find-number (λ y. not (is_before packs before y)) (arguments ssa) (length ssa.units) u (omega arith) (omega arith)
    (λ y l b. ap not (before-true ssa matches packs g done y is (omega arith, omega arith) (next.4 y (omega arith) b)))
    (ap not (before-false ssa matches packs g done u good is inside within next.5)) in
    let down : LeadsDown deps ssa matches packs before (node_of packs u) next.1 (node_at g n) =
    subst (λ m. LeadsDown deps ssa matches packs before m next.1 (node_at g n)) (sym (node_of-is ssa matches packs g u good is inside))
    (ends-lead deps ssa matches packs g done (home_at g u) next.1 n good is graph within (is.homes u inside).0 next.6) in
    let from : IsNextFrom deps ssa matches packs before (node_at g n) (Some u) = (next.1, down) in
    subst (IsNextFrom deps ssa matches packs before (node_at g n)) (sym least) from

-- ---- packs without units

has-pack : (ssa : Ssa) (matches : List Match) (packs : List Pack) (g : Graph) (done : List ℕ) (m : ℕ) → IsGraphOf ssa matches packs g → m < length packs → Stands m done
    → list_any (is_pack m) (map (node_at g) done) ≡ true
has-pack ssa matches packs g [] m is h s = absurd (omega arith)
has-pack ssa matches packs g (d ∷ done) m is h s = elim (cases_eq m d) [
  | inl same ↦
      let here : is_pack m (node_at g d) ≡ true = ap (λ k. is_pack m (node_at g k)) (sym same) ∙ ap (is_pack m) (pack-node ssa matches packs g m is h) ∙ eq-eqb m m refl in
      ap (λ b. b || list_any (is_pack m) (map (node_at g) done)) here
  | inr other ↦
      let none : one_if (m == d) ≡ 0 = ap one_if (ne_eqb m d other) in
      or_right _ _ (has-pack ssa matches packs g done m is h (omega arith))
]

no-pack : (ssa : Ssa) (matches : List Match) (packs : List Pack) (g : Graph) (done : List ℕ) (n : ℕ) → IsGraphOf ssa matches packs g → Within g done → count_of n done ≡ 0
    → list_any (is_pack n) (map (node_at g) done) ≡ false
no-pack ssa matches packs g [] n is within none = refl
no-pack ssa matches packs g (d ∷ done) n is within none =
    let other : n ≢ d = λ e. (let one : one_if (n == d) ≡ 1 = ap one_if (eq-eqb n d e) in omega arith) in
    let here : is_pack n (node_at g d) ≡ false = elim (cases_lt d (length packs)) [
      | inl h ↦ ap (is_pack n) (pack-node ssa matches packs g d is h) ∙ ne_eqb n d other
      | inr past ↦ ap (is_pack n) (unit-node ssa matches packs g d is past (within d (head-stands d done)))
    ] in
    ap (λ b. b || list_any (is_pack n) (map (node_at g) done)) here ∙ no-pack ssa matches packs g done n is (λ m s. within m (omega arith)) (omega arith)

-- a node that is no pack has a unit
unit-stands : (ssa : Ssa) (matches : List Match) (packs : List Pack) (g : Graph) (n : ℕ) → ArePacks ssa packs → IsGraphOf ssa matches packs g → length packs ≤ n → n < length g.nodes
    → (x : ℕ) × IsInside g x × (n ≡ home_at g x)
unit-stands ssa matches packs g n good is low high =
    let x = slice_index (units_outside ssa packs) (n - length packs) in
    let here : Stands x (units_at packs (node_at g n)) = subst (λ q. Stands x (units_at packs q)) (sym (unit-node ssa matches packs g n is low high)) (head-stands x []) in
    let all : Stands x (all_units (units_at packs) (nodes ssa packs)) = subst (λ l. Stands x (all_units (units_at packs) l)) is.nodes (at-found (units_at packs) (UnitAt 0) x g.nodes n high here) in
    let same = nodes-have_units ssa packs (nodes ssa packs) good (IsPermutation-refl (nodes ssa packs)) x in
    let among = number-inside x (arguments ssa) (length ssa.units) (omega arith) in
    let first = is.first in
    let long = is.long in
    let from = among.0 in
    let to = among.1 in
    let inside : IsInside g x = (omega arith, omega arith) in
    (x, inside, one-home ssa matches packs g n x good is high inside here)

next-of_rest : (deps : List (ℕ × ℕ)) (ssa : Ssa) (matches : List Match) (packs : List Pack) (g : Graph) (done : List ℕ) (n : ℕ)
    → ArePacks ssa packs → IsGraphOf ssa matches packs g → Within g done → n < length g.nodes → IsNextOfRest g done n
    → IsNext deps ssa matches packs (map (node_at g) done) (node_at g n)
next-of_rest deps ssa matches packs g done n good is within h next =
    let before = map (node_at g) done in
    let first = is.first in
    let long = is.long in
    let all : first_open packs before (numbers_from (arguments ssa) (length ssa.units)) ≡ None =
    open-none ssa matches packs g done (numbers_from (arguments ssa) (length ssa.units)) is
    (λ y s. (let at = number-inside y (arguments ssa) (length ssa.units) s in let low = at.0 in let high = at.1 in (omega arith, omega arith)))
    (λ y s. (let at = number-inside y (arguments ssa) (length ssa.units) s in let low = at.0 in let high = at.1 in next.0 y (omega arith) (omega arith))) in
    let from : IsNextFrom deps ssa matches packs before (node_at g n) None = elim (cases_lt n (length packs)) [
      | inl pack ↦
          ap (option_map PackAt) (find-number (λ k. not (list_any (is_pack k) before)) 0 (length packs) n (omega arith) (omega arith)
          (λ y l b. ap not (has-pack ssa matches packs g done y is (omega arith) (next.1 y b)))
          (ap not (no-pack ssa matches packs g done n is within next.2)))
          ∙ ap Some (sym (pack-node ssa matches packs g n is pack))
      | inr past ↦
          let unit = unit-stands ssa matches packs g n good is past h in
          let here : Stands n done = subst (λ m. Stands m done) (sym unit.2) (next.0 unit.0 unit.1.0 unit.1.1) in
          let none = next.2 in
          absurd (omega arith)
    ] in
    subst (IsNextFrom deps ssa matches packs before (node_at g n)) (sym all) from

-- ---- the whole order

each-next : (deps : List (ℕ × ℕ)) (ssa : Ssa) (matches : List Match) (packs : List Pack) (g : Graph) (done order : List ℕ)
    → ArePacks ssa packs → IsGraphOf ssa matches packs g → IsGraph deps g → Within g done → Within g order → AreNext deps g done order
    → EachIsNext deps ssa matches packs (map (node_at g) done) (map (node_at g) order)
each-next deps ssa matches packs g done [] good is graph within rest next = tt
each-next deps ssa matches packs g done (n ∷ order) good is graph within rest next =
    let h = rest n (head-stands n order) in
    let more : Within g (done ++ n ∷ []) = λ m s. elim (stands-append m done (n ∷ []) s) [
      | inl l ↦ within m l
      | inr r ↦ subst (λ k. k < length g.nodes) (sym (only-one m n r)) h
    ] in (
      elim next.0 [
        | inl units ↦ next-of_units deps ssa matches packs g done n good is graph within units
        | inr last ↦ next-of_rest deps ssa matches packs g done n good is within h last
      ],
      subst (λ l. EachIsNext deps ssa matches packs l (map (node_at g) order)) (map-append (node_at g) done (n ∷ []))
          (each-next deps ssa matches packs g (done ++ n ∷ []) order good is graph more (λ m s. rest m (omega arith)) next.1),
    )

pub graph-scheduled : (deps : List (ℕ × ℕ)) (ssa : Ssa) (matches : List Match) (packs : List Pack) (g : Graph) (order : List ℕ)
    → ArePacks ssa packs → IsGraphOf ssa matches packs g → NameUnits ssa deps → IsOrdered (needs_at deps g) (home_at g) (length g.needs) order → AreNext deps g [] order
    → IsScheduled deps ssa matches packs (map (node_at g) order)
graph-scheduled deps ssa matches packs g order good is names ordered next =
    let long = long-needs ssa matches packs g is in
    let legal = graph-order deps ssa matches packs g order is names ordered in
    record {
      once = legal.once;
      next = each-next deps ssa matches packs g [] order good is (is-graph deps ssa matches packs g is names) (λ m s. absurd (omega arith))
          (λ m s. elim (cases_lt m (length g.nodes)) [
            | inl h ↦ h
            | inr past ↦ absurd (let none = ordered.none m (omega arith) in omega arith)
          ]) next;
    }
