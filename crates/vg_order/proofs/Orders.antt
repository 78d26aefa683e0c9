-- What was placed is an order of the plan, and what leads back is a cycle of it.
use Rattle.std.proofs.Common.{◌≡◌, ℕ, ◌+◌, ◌-◌, ◌<◌, true, List, [], ◌∷◌, ◌++◌, length, map, refl, sym, ap, subst, ◌∙◌, inl, inr, arith}
use Rattle.std.specs.Prelude.{Contains, filter, not, slice_index_or, ◌==◌}
use Rattle.std.specs.List.{AllByRecursion}
use Rattle.std.specs.List.Sorted.{IsPermutation}
use Rattle.std.proofs.lemmas.Bool.{cases_Bool, cases_lt, eq-eqb, eqb-true}
use Rattle.std.proofs.lemmas.List.{get_or-map, length-map, map-append}
use Rattle.std.proofs.lemmas.List.Elements.{Contains-get_or}
use Rattle.std.proofs.lemmas.List.Sorted.{IsPermutation-map}
use Rattle.vg_shapes.specs.declared.match_table.Match.{Match}
use Rattle.vg_shapes.specs.declared.order.Node.{Node}
use Rattle.vg_shapes.specs.declared.order.Node.TheVariants.{UnitAt}
use Rattle.vg_shapes.specs.declared.pack.Pack.{Pack}
use Rattle.vg_shapes.specs.declared.ssa.Ssa.{Ssa}
use Rattle.vg_shapes.specs.Nodes.{is_packed, nodes, units_at}
use Rattle.vg_shapes.specs.Order.{all_units, Follows, numbers_from, one_if, Stands}
use Rattle.vg_shapes.specs.Units.{arguments}
use Rattle.vg_order.specs.declared.fault.OrderFault.{OrderFault}
use Rattle.vg_order.specs.declared.fault.OrderFault.TheVariants.{Cycle, Memory}
use Rattle.vg_order.specs.declared.graph.Graph.{Graph}
use Rattle.vg_order.specs.ByList.{AreOnce, AreUnitsOf, IsOrderBy, LeadsToBy, NamesCycle, NameLesser, NameUnits, node_depends_by}
use Rattle.vg_order.specs.Faults.{Closes, Tells}
use Rattle.vg_order.specs.Graphs.{IsGraphOf, node_at}
use Rattle.vg_order.specs.Paths.{ClosesBy, FollowsHomes, home_at, IsInside, IsOrdered, IsRising, LeadsBack, needs_at}
use Rattle.vg_order.proofs.Counts.{count_of-append, once-from_map}
use Rattle.vg_order.proofs.Dependences.{depends-need, is-graph, long-needs, needs-depend, no-needs}
use Rattle.vg_order.proofs.Graphs.{length-numbers, numbers-at}
use Rattle.vg_order.proofs.Permutations.{all-members, permutation-counts}
use Rattle.vg_order.proofs.Rising.{count_of-past, count_of-within}

-- ---- orders

-- a unit of a node that is done stands among the units that are done
pub done-units : (packs : List Pack) (node : ℕ → Node) (m x : ℕ) (done : List ℕ) → Stands m done → Stands x (units_at packs (node m)) → Stands x (all_units (units_at packs) (map node done))
done-units packs node m x [] s t = absurd (omega arith)
done-units packs node m x (n ∷ done) s t =
    let sum = count_of-append x (units_at packs (node n)) (all_units (units_at packs) (map node done)) in
    elim (cases_Bool (m == n)) [
      | inl same ↦ (let here : Stands x (units_at packs (node n)) = subst (λ k. Stands x (units_at packs (node k))) (eqb-true m n same) t in omega arith)
      | inr other ↦ (let none : one_if (m == n) ≡ 0 = ap one_if other in let rest = done-units packs node m x done (omega arith) t in omega arith)
    ]

graph-follows : (deps : List (ℕ × ℕ)) (ssa : Ssa) (matches : List Match) (packs : List Pack) (g : Graph) (done order : List ℕ) → IsGraphOf ssa matches packs g → NameUnits ssa deps
    → FollowsHomes (needs_at deps g) (home_at g) done order → ((n : ℕ) → Stands n order → n < length g.nodes)
    → Follows (node_depends_by deps ssa matches packs) (units_at packs) (map (node_at g) done) (map (node_at g) order)
graph-follows deps ssa matches packs g done [] is names follows inside = tt
graph-follows deps ssa matches packs g done (n ∷ order) is names follows inside =
    let graph = is-graph deps ssa matches packs g is names in
    let here : n < length g.nodes = inside n (let one : one_if (n == n) ≡ 1 = ap one_if (eq-eqb n n refl) in omega arith) in (
      λ x d. (
          let need = depends-need deps ssa matches packs g n x is here d in
          done-units packs (node_at g) (home_at g x) x done (follows.0 x need) (is.homes x (graph.units n x need)).1),
      subst (λ l. Follows (node_depends_by deps ssa matches packs) (units_at packs) l (map (node_at g) order)) (map-append (node_at g) done (n ∷ []))
          (graph-follows deps ssa matches packs g (done ++ n ∷ []) order is names follows.1 (λ m s. inside m (omega arith))),
    )

pub graph-order : (deps : List (ℕ × ℕ)) (ssa : Ssa) (matches : List Match) (packs : List Pack) (g : Graph) (order : List ℕ) → IsGraphOf ssa matches packs g → NameUnits ssa deps
    → IsOrdered (needs_at deps g) (home_at g) (length g.needs) order → IsOrderBy deps ssa matches packs (map (node_at g) order)
graph-order deps ssa matches packs g order is names o =
    let long = long-needs ssa matches packs g is in
    let count = length g.nodes in
    record {
      once = subst (λ l. IsPermutation l (map (node_at g) order)) (all-members (UnitAt 0) g.nodes ∙ is.nodes)
          (IsPermutation-map (node_at g) (numbers_from 0 count) order (permutation-counts (numbers_from 0 count) order (λ n. elim (cases_lt n count) [
            | inl h ↦ count_of-within n 0 count (omega arith) (omega arith) ∙ sym (o.once n (omega arith))
            | inr past ↦ count_of-past n 0 count (omega arith) ∙ sym (o.none n (omega arith))
          ])));
      follows = graph-follows deps ssa matches packs g [] order is names o.follows (λ n s. elim (cases_lt n count) [
        | inl h ↦ h
        | inr past ↦ absurd (let none = o.none n (omega arith) in omega arith)
      ]);
    }

-- ---- cycles

graph-leads : (deps : List (ℕ × ℕ)) (ssa : Ssa) (matches : List Match) (packs : List Pack) (g : Graph) (end u : ℕ) (us : List ℕ) → IsGraphOf ssa matches packs g → NameUnits ssa deps
    → AllByRecursion (IsInside g) (u ∷ us) → LeadsBack (needs_at deps g) (home_at g) end (u ∷ us)
    → LeadsToBy deps ssa matches packs (node_at g end) (node_at g (home_at g u)) (map (λ v. node_at g (home_at g v)) us)
graph-leads deps ssa matches packs g end u [] is names all back =
    let graph = is-graph deps ssa matches packs g is names in
    let x = back.0 in (
      x,
      subst (λ n. Stands x (units_at packs (node_at g n))) back.2 (is.homes x (graph.units (home_at g u) x back.1)).1,
      needs-depend deps ssa matches packs g (home_at g u) x is (is.homes u all.0).0 back.1,
    )
graph-leads deps ssa matches packs g end u (v ∷ vs) is names all back = (
  (v, (is.homes v all.1.0).1, needs-depend deps ssa matches packs g (home_at g u) v is (is.homes u all.0).0 back.0),
  graph-leads deps ssa matches packs g end v vs is names all.1 back.1,
)

graph-contains : (ssa : Ssa) (matches : List Match) (packs : List Pack) (g : Graph) (us : List ℕ) → IsGraphOf ssa matches packs g → AllByRecursion (IsInside g) us
    → AllByRecursion (Contains (nodes ssa packs)) (map (λ v. node_at g (home_at g v)) us)
graph-contains ssa matches packs g [] is all = tt
graph-contains ssa matches packs g (u ∷ us) is all = (
  subst (λ l. Contains l (node_at g (home_at g u))) is.nodes (Contains-get_or g.nodes (home_at g u) (UnitAt 0) (is.homes u all.0).0),
  graph-contains ssa matches packs g us is all.1,
)

graph-units : (ssa : Ssa) (matches : List Match) (packs : List Pack) (g : Graph) (us : List ℕ) → IsGraphOf ssa matches packs g → AllByRecursion (IsInside g) us
    → AreUnitsOf packs us (map (λ v. node_at g (home_at g v)) us)
graph-units ssa matches packs g [] is all = refl
graph-units ssa matches packs g (u ∷ us) is all = ((is.homes u all.0).1, graph-units ssa matches packs g us is all.1)

graph-cycle : (deps : List (ℕ × ℕ)) (ssa : Ssa) (matches : List Match) (packs : List Pack) (g : Graph) (us : List ℕ) → IsGraphOf ssa matches packs g → NameUnits ssa deps
    → ClosesBy (needs_at deps g) (home_at g) us → AllByRecursion (IsInside g) us → AreOnce (map (home_at g) us) → NamesCycle deps ssa matches packs us
graph-cycle deps ssa matches packs g [] is names closes all once = absurd closes
graph-cycle deps ssa matches packs g (u ∷ us) is names closes all once = (
  map (λ v. node_at g (home_at g v)) (u ∷ us),
  (graph-contains ssa matches packs g (u ∷ us) is all, graph-leads deps ssa matches packs g (home_at g u) u us is names all closes),
  graph-units ssa matches packs g (u ∷ us) is all,
  once-from_map (home_at g) (u ∷ us) once,
)

pub graph-tells : (deps : List (ℕ × ℕ)) (ssa : Ssa) (matches : List Match) (packs : List Pack) (g : Graph) (fault : OrderFault) → IsGraphOf ssa matches packs g → NameUnits ssa deps
    → Closes deps g fault → Tells deps ssa matches packs fault
graph-tells deps ssa matches packs g (Cycle units) is names c = graph-cycle deps ssa matches packs g units.items is names c.0 c.1 c.2
graph-tells deps ssa matches packs g (Memory e) is names c = tt

-- ---- the empty plan

all-kept : (vs : List ℕ) → filter (λ v. not (is_packed [] v)) vs ≡ vs
all-kept [] = refl
all-kept (v ∷ vs) = ap (λ l. v ∷ l) (all-kept vs)

pub empty-nodes : (ssa : Ssa) → nodes ssa [] ≡ map UnitAt (numbers_from (arguments ssa) (length ssa.units))
empty-nodes ssa = ap (map UnitAt) (all-kept (numbers_from (arguments ssa) (length ssa.units)))

empty-node : (ssa : Ssa) (matches : List Match) (packs : List Pack) (g : Graph) (n : ℕ) → packs ≡ [] → IsGraphOf ssa matches packs g → n < length g.nodes → node_at g n ≡ UnitAt (arguments ssa + n)
empty-node ssa matches packs g n e is h =
    let all : g.nodes ≡ map UnitAt (numbers_from (arguments ssa) (length ssa.units)) = is.nodes ∙ ap (nodes ssa) e ∙ empty-nodes ssa in
    let long = length-map (numbers_from (arguments ssa) (length ssa.units)) UnitAt in
    let count = length-numbers (arguments ssa) (length ssa.units) in
    let same = ap length all in
    ap (λ (l : List Node). slice_index_or l n (UnitAt 0)) all
    ∙ get_or-map UnitAt (numbers_from (arguments ssa) (length ssa.units)) n 0 (UnitAt 0) (omega arith)
    ∙ ap UnitAt (numbers-at (arguments ssa) (length ssa.units) n (omega arith))

pub only-one : (x y : ℕ) → Stands x (y ∷ []) → x ≡ y
only-one x y s = elim (cases_Bool (x == y)) [
  | inl t ↦ eqb-true x y t
  | inr f ↦ absurd (let none : one_if (x == y) ≡ 0 = ap one_if f in omega arith)
]

pub graph-rises : (deps : List (ℕ × ℕ)) (ssa : Ssa) (matches : List Match) (packs : List Pack) (g : Graph) → packs ≡ [] → IsGraphOf ssa matches packs g → NameUnits ssa deps → NameLesser deps → IsRising deps g
graph-rises deps ssa matches packs g e is names less =
    let graph = is-graph deps ssa matches packs g is names in
    let long = long-needs ssa matches packs g is in
    let first = is.first in
    let end = is.long in
    let all : length g.nodes ≡ length ssa.units = ap length (is.nodes ∙ ap (nodes ssa) e ∙ empty-nodes ssa) ∙ length-map (numbers_from (arguments ssa) (length ssa.units)) UnitAt ∙ length-numbers (arguments ssa) (length ssa.units) in
    let home : (x : ℕ) → IsInside g x → home_at g x ≡ x - g.first =
    λ x inside. (let at = is.homes x inside in
    let one : x ≡ arguments ssa + home_at g x = only-one x (arguments ssa + home_at g x) (subst (λ q. Stands x (units_at packs q)) (empty-node ssa matches packs g (home_at g x) e is at.0) at.1) in
    omega arith) in (
      home,
      omega arith,
      λ n x s. elim (cases_lt n (length g.nodes)) [
        | inr past ↦ absurd (no-needs deps g n x (omega arith) s)
        | inl h ↦
            let depends = subst (λ q. node_depends_by deps ssa matches packs q x ≡ true) (empty-node ssa matches packs g n e is h) (needs-depend deps ssa matches packs g n x is h s) in
            let below : x < arguments ssa + n = less (arguments ssa + n) x depends in
            let inside = graph.units n x s in
            let at = home x inside in
            let low = inside.0 in
            omega arith
      ],
    )

pub graph-numbers : (deps : List (ℕ × ℕ)) (ssa : Ssa) (matches : List Match) (packs : List Pack) (g : Graph) (order : List ℕ) (found : List Node) → IsGraphOf ssa matches packs g → NameUnits ssa deps
    → (IsRising deps g → order ≡ numbers_from 0 (length g.needs)) → found ≡ map (node_at g) order
    → packs ≡ [] → NameLesser deps → found ≡ map UnitAt (numbers_from (arguments ssa) (length ssa.units))
graph-numbers deps ssa matches packs g order found is names rising f e less =
    f ∙ ap (map (node_at g)) (rising (graph-rises deps ssa matches packs g e is names less) ∙ ap (numbers_from 0) (long-needs ssa matches packs g is))
    ∙ all-members (UnitAt 0) g.nodes ∙ is.nodes ∙ ap (nodes ssa) e ∙ empty-nodes ssa
