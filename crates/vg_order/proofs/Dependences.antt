-- On what the nodes of the graph of a plan depend.
use Rattle.std.proofs.Common.{◌≡◌, ℕ, zero, suc, ◌+◌, ◌-◌, ◌<◌, ◌≤◌, true, false, List, [], ◌∷◌, ◌++◌, length, map, Option, Some, None, refl, sym, ap, subst, ◌∙◌, ◌⊎◌, inl, inr, arith, append-nil}
use Rattle.std.specs.Prelude.{nat_le, nat_lt, slice_get, slice_index_or, ◌==◌, ◌&&◌}
use Rattle.std.specs.List.{concat, cons_option, list_any}
use Rattle.std.specs.Option.{is_some, option_map_or}
use Rattle.std.proofs.lemmas.Bool.{and_from, and_parts, cases_Bool, cases_lt, cond-false, cond-true, eq-eqb, eqb-true, le-leb, le-ltb, leb-true, lt-ltb, ltb-true, or_cases, or_left, or_right}
use Rattle.std.proofs.lemmas.List.{get_or-map, get_or_past, length-map}
use Rattle.vg_shapes.specs.declared.match_table.Bound.{Bound}
use Rattle.vg_shapes.specs.declared.match_table.Match.{Match}
use Rattle.vg_shapes.specs.declared.order.Node.{Node}
use Rattle.vg_shapes.specs.declared.order.Node.TheVariants.{PackAt, UnitAt}
use Rattle.vg_shapes.specs.declared.pack.Pack.{Pack}
use Rattle.vg_shapes.specs.declared.pack.Pack.TheVariants.{Stores, Loads, Call}
use Rattle.vg_shapes.specs.declared.ssa.Ssa.{Ssa}
use Rattle.vg_shapes.specs.declared.wanted.Wanted.{Wanted}
use Rattle.vg_shapes.specs.declared.wanted.Wanted.TheVariants.{Value, Constant, Nothing}
use Rattle.vg_shapes.specs.DepList.{is_listed, row_of}
use Rattle.vg_shapes.specs.Order.{count_of, one_if, Stands}
use Rattle.vg_shapes.specs.Pack.{bounds_from}
use Rattle.vg_shapes.specs.Units.{arguments, is_unit, is_value}
use Rattle.vg_order.specs.declared.graph.Graph.{Graph}
use Rattle.vg_order.specs.declared.needs.Needs.{Needs}
use Rattle.vg_order.specs.declared.needs.Needs.TheVariants.{Those}
use Rattle.vg_order.specs.ByList.{NameUnits, node_depends_by, pack_depends_by}
use Rattle.vg_order.specs.Graphs.{IsGraphOf, node_at, node_needs, pack_needs, unit_in, units_among}
use Rattle.vg_order.specs.Needs.{rows_of}
use Rattle.vg_order.specs.Paths.{IsGraph, needs_at}
use Rattle.vg_order.proofs.Counts.{count_of-append, stands-append}
use Rattle.vg_order.proofs.Graphs.{found-stands, stands-found, unit-inside}

-- ---- rows

stands-nil : (x : ℕ) (us : List ℕ) → Stands x (us ++ []) → Stands x us
stands-nil x us s = subst (Stands x) (append-nil us) s

nil-stands : (x : ℕ) (us : List ℕ) → Stands x us → Stands x (us ++ [])
nil-stands x us s = subst (Stands x) (sym (append-nil us)) s

rows-found : (deps : List (ℕ × ℕ)) (x : ℕ) (us : List ℕ) → Stands x (concat (map (row_of deps) us)) → list_any (λ u. is_listed deps u x) us ≡ true
rows-found deps x [] s = absurd (omega arith)
rows-found deps x (u ∷ us) s = elim (stands-append x (row_of deps u) (concat (map (row_of deps) us)) s) [
  | inl here ↦ or_left _ _ (stands-found x (row_of deps u) here)
  | inr rest ↦ or_right _ _ (rows-found deps x us rest)
]

found-rows : (deps : List (ℕ × ℕ)) (x : ℕ) (us : List ℕ) → list_any (λ u. is_listed deps u x) us ≡ true → Stands x (concat (map (row_of deps) us))
found-rows deps x [] e = absurd (cc)
found-rows deps x (u ∷ us) e =
    let sum = count_of-append x (row_of deps u) (concat (map (row_of deps) us)) in
    elim (or_cases _ _ e) [
      | inl here ↦ (let s = found-stands x (row_of deps u) here in omega arith)
      | inr rest ↦ (let s = found-rows deps x us rest in omega arith)
    ]

-- ---- bound values

pub inside-unit : (ssa : Ssa) (x : ℕ) → arguments ssa ≤ x → x < arguments ssa + length ssa.units → is_unit ssa x ≡ true
inside-unit ssa x low high = ap is_some (cond-false _ _ _ (le-ltb x (arguments ssa) low)) ∙ there ssa.units (x - arguments ssa) (omega arith)
  where
    there : {A : Type 0} (xs : List A) (k : ℕ) → k < length xs → is_some (slice_get xs k) ≡ true
    there [] k h = absurd (omega arith)
    there (x ∷ xs) zero h = refl
    there (x ∷ xs) (suc k) h = there xs k (omega arith)

-- a unit that is wanted stands there, and what stands there is a unit that is wanted
one-found : (first end x : ℕ) (w : Wanted) (rest : List ℕ) → Stands x (cons_option (unit_in first end w) rest) → ((first ≤ x) × (x < end) × (is_value x w ≡ true)) ⊎ Stands x rest
one-found first end x (Constant width n) rest s = inr s
one-found first end x Nothing rest s = inr s
one-found first end x (Value y) rest s = elim (cases_Bool (nat_le first y && nat_lt y end)) [
  | inr f ↦ inr (subst (λ o. Stands x (cons_option o rest)) (cond-false _ _ _ f) s)
  | inl t ↦
      let both = and_parts _ _ t in
      let there : Stands x (y ∷ rest) = subst (λ o. Stands x (cons_option o rest)) (cond-true _ _ _ t) s in
      elim (cases_Bool (x == y)) [
        | inl same ↦
            let is : x ≡ y = eqb-true x y same in
            let low : first ≤ y = leb-true first y both.0 in
            let high : y < end = ltb-true y end both.1 in
            inl (omega arith, omega arith, eq-eqb y x (sym is))
        | inr other ↦ inr (let none : one_if (x == y) ≡ 0 = ap one_if other in omega arith)
      ]
]

found-one : (first end x : ℕ) (w : Wanted) (rest : List ℕ) → first ≤ x → x < end → is_value x w ≡ true → Stands x (cons_option (unit_in first end w) rest)
found-one first end x (Constant width n) rest low high e = absurd (cc)
found-one first end x Nothing rest low high e = absurd (cc)
found-one first end x (Value y) rest low high e =
    let is : y ≡ x = eqb-true y x e in
    let t : (nat_le first y && nat_lt y end) ≡ true = and_from _ _ (le-leb first y (omega arith)) (lt-ltb y end (omega arith)) in
    let one : one_if (x == y) ≡ 1 = ap one_if (eq-eqb x y (sym is)) in
    subst (λ o. Stands x (cons_option o rest)) (sym (cond-true _ _ _ t)) (let some : Stands x (y ∷ rest) = omega arith in some)

kept-one : (first end x : ℕ) (w : Wanted) (rest : List ℕ) → Stands x rest → Stands x (cons_option (unit_in first end w) rest)
kept-one first end x w rest s = by (unit_in first end w)
  where
    by : (o : Option ℕ) → Stands x (cons_option o rest)
    by None = s
    by (Some y) = omega arith

among-found : (first end x : ℕ) (bounds : List Bound) → Stands x (units_among first end bounds) → (first ≤ x) × (x < end) × (list_any (λ b. is_value x b.wanted) bounds ≡ true)
among-found first end x [] s = absurd (omega arith)
among-found first end x (b ∷ bounds) s = elim (one-found first end x b.wanted (units_among first end bounds) s) [
  | inl here ↦ (here.0, here.1, or_left _ _ here.2)
  | inr rest ↦ (let found = among-found first end x bounds rest in (found.0, found.1, or_right _ _ found.2))
]

found-among : (first end x : ℕ) (bounds : List Bound) → first ≤ x → x < end → list_any (λ b. is_value x b.wanted) bounds ≡ true → Stands x (units_among first end bounds)
found-among first end x [] low high e = absurd (cc)
found-among first end x (b ∷ bounds) low high e = elim (or_cases _ _ e) [
  | inl here ↦ found-one first end x b.wanted (units_among first end bounds) low high here
  | inr rest ↦ kept-one first end x b.wanted (units_among first end bounds) (found-among first end x bounds low high rest)
]

-- ---- nodes

abbrev pub end_of : Ssa → ℕ
end_of ssa = arguments ssa + length ssa.units

pack-found : (deps : List (ℕ × ℕ)) (ssa : Ssa) (matches : List Match) (p : Pack) (x : ℕ) → Stands x (concat (rows_of deps (pack_needs (arguments ssa) (end_of ssa) matches p))) → pack_depends_by deps ssa matches p x ≡ true
pack-found deps ssa matches (Stores us) x s = rows-found deps x us s
pack-found deps ssa matches (Loads us) x s = rows-found deps x us s
pack-found deps ssa matches (Call d lanes) x s =
    let found = among-found (arguments ssa) (end_of ssa) x (bounds_from matches d 0 lanes) (stands-nil x _ s) in
    and_from _ _ (inside-unit ssa x found.0 found.1) found.2

found-pack : (deps : List (ℕ × ℕ)) (ssa : Ssa) (matches : List Match) (p : Pack) (x : ℕ) → pack_depends_by deps ssa matches p x ≡ true → Stands x (concat (rows_of deps (pack_needs (arguments ssa) (end_of ssa) matches p)))
found-pack deps ssa matches (Stores us) x e = found-rows deps x us e
found-pack deps ssa matches (Loads us) x e = found-rows deps x us e
found-pack deps ssa matches (Call d lanes) x e =
    let both = and_parts _ _ e in
    let inside = unit-inside ssa x both.0 in
    nil-stands x _ (found-among (arguments ssa) (end_of ssa) x (bounds_from matches d 0 lanes) inside.0 inside.1 both.1)

node-found : (deps : List (ℕ × ℕ)) (ssa : Ssa) (matches : List Match) (packs : List Pack) (q : Node) (x : ℕ) → Stands x (concat (rows_of deps (node_needs (arguments ssa) (end_of ssa) matches packs q))) → node_depends_by deps ssa matches packs q x ≡ true
node-found deps ssa matches packs (UnitAt v) x s = stands-found x (row_of deps v) (stands-nil x (row_of deps v) s)
node-found deps ssa matches packs (PackAt k) x s = by (slice_get packs k) s
  where
    by : (o : Option Pack) → Stands x (concat (rows_of deps (option_map_or (pack_needs (arguments ssa) (end_of ssa) matches) o (Those [])))) → option_map_or (λ p. pack_depends_by deps ssa matches p x) o false ≡ true
    by None s = absurd (omega arith)
    by (Some p) s = pack-found deps ssa matches p x s

found-node : (deps : List (ℕ × ℕ)) (ssa : Ssa) (matches : List Match) (packs : List Pack) (q : Node) (x : ℕ) → node_depends_by deps ssa matches packs q x ≡ true → Stands x (concat (rows_of deps (node_needs (arguments ssa) (end_of ssa) matches packs q)))
found-node deps ssa matches packs (UnitAt v) x e = nil-stands x (row_of deps v) (found-stands x (row_of deps v) e)
found-node deps ssa matches packs (PackAt k) x e = by (slice_get packs k) e
  where
    by : (o : Option Pack) → option_map_or (λ p. pack_depends_by deps ssa matches p x) o false ≡ true → Stands x (concat (rows_of deps (option_map_or (pack_needs (arguments ssa) (end_of ssa) matches) o (Those []))))
    by None e = absurd (cc)
    by (Some p) e = found-pack deps ssa matches p x e

-- ---- nodes by number

pub needs-are : (deps : List (ℕ × ℕ)) (ssa : Ssa) (matches : List Match) (packs : List Pack) (g : Graph) (n : ℕ) → IsGraphOf ssa matches packs g → n < length g.nodes
    → needs_at deps g n ≡ concat (rows_of deps (node_needs (arguments ssa) (end_of ssa) matches packs (node_at g n)))
needs-are deps ssa matches packs g n is h =
    ap (λ q. concat (rows_of deps q)) (ap (λ (l : List Needs). slice_index_or l n (Those [])) is.needs ∙ get_or-map (node_needs (arguments ssa) (end_of ssa) matches packs) g.nodes n (UnitAt 0) (Those []) h)

pub needs-depend : (deps : List (ℕ × ℕ)) (ssa : Ssa) (matches : List Match) (packs : List Pack) (g : Graph) (n x : ℕ) → IsGraphOf ssa matches packs g → n < length g.nodes
    → Stands x (needs_at deps g n) → node_depends_by deps ssa matches packs (node_at g n) x ≡ true
needs-depend deps ssa matches packs g n x is h s = node-found deps ssa matches packs (node_at g n) x (subst (Stands x) (needs-are deps ssa matches packs g n is h) s)

pub depends-need : (deps : List (ℕ × ℕ)) (ssa : Ssa) (matches : List Match) (packs : List Pack) (g : Graph) (n x : ℕ) → IsGraphOf ssa matches packs g → n < length g.nodes
    → node_depends_by deps ssa matches packs (node_at g n) x ≡ true → Stands x (needs_at deps g n)
depends-need deps ssa matches packs g n x is h e = subst (Stands x) (sym (needs-are deps ssa matches packs g n is h)) (found-node deps ssa matches packs (node_at g n) x e)

pub long-needs : (ssa : Ssa) (matches : List Match) (packs : List Pack) (g : Graph) → IsGraphOf ssa matches packs g → length g.needs ≡ length g.nodes
long-needs ssa matches packs g is = ap length is.needs ∙ length-map g.nodes (node_needs (arguments ssa) (end_of ssa) matches packs)

pub no-needs : (deps : List (ℕ × ℕ)) (g : Graph) (n x : ℕ) → length g.needs ≤ n → Stands x (needs_at deps g n) → ⊥
no-needs deps g n x h s = (let none : needs_at deps g n ≡ [] = ap (λ q. concat (rows_of deps q)) (get_or_past g.needs n (Those []) h) in let e = ap (count_of x) none in omega arith)

-- what a node depends on is a unit
rows-unit : (deps : List (ℕ × ℕ)) (ssa : Ssa) (x : ℕ) (us : List ℕ) → NameUnits ssa deps → list_any (λ u. is_listed deps u x) us ≡ true → is_unit ssa x ≡ true
rows-unit deps ssa x [] names e = absurd (cc)
rows-unit deps ssa x (u ∷ us) names e = elim (or_cases _ _ e) [
  | inl here ↦ names u x here
  | inr rest ↦ rows-unit deps ssa x us names rest
]

pub depends-unit : (deps : List (ℕ × ℕ)) (ssa : Ssa) (matches : List Match) (packs : List Pack) (q : Node) (x : ℕ) → NameUnits ssa deps → node_depends_by deps ssa matches packs q x ≡ true → is_unit ssa x ≡ true
depends-unit deps ssa matches packs (UnitAt v) x names e = names v x e
depends-unit deps ssa matches packs (PackAt k) x names e = by (slice_get packs k) e
  where
    by : (o : Option Pack) → option_map_or (λ p. pack_depends_by deps ssa matches p x) o false ≡ true → is_unit ssa x ≡ true
    by None e = absurd (cc)
    by (Some (Stores us)) e = rows-unit deps ssa x us names e
    by (Some (Loads us)) e = rows-unit deps ssa x us names e
    by (Some (Call d lanes)) e = (and_parts _ _ e).0

pub is-graph : (deps : List (ℕ × ℕ)) (ssa : Ssa) (matches : List Match) (packs : List Pack) (g : Graph) → IsGraphOf ssa matches packs g → NameUnits ssa deps → IsGraph deps g
is-graph deps ssa matches packs g is names =
    let long = long-needs ssa matches packs g is in
    record {
      units = λ n x s. elim (cases_lt n (length g.nodes)) [
        | inr past ↦ absurd (no-needs deps g n x (omega arith) s)
        | inl h ↦
            let unit = unit-inside ssa x (depends-unit deps ssa matches packs (node_at g n) x names (needs-depend deps ssa matches packs g n x is h s)) in
            let first = is.first in
            let end = is.long in
            let low = unit.0 in
            let high = unit.1 in
            (omega arith, omega arith)
      ];
      homes = λ x inside. (let h = (is.homes x inside).0 in omega arith);
      begins = (let first = is.first in let end = is.long in omega arith);
      few = is.few;
    }
