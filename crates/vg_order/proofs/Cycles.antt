-- Nodes that have an order have no cycle.
use Rattle.std.proofs.Common.{◌≡◌, ℕ, zero, suc, ◌+◌, ◌<◌, ◌≤◌, Bool, true, List, [], ◌∷◌, ◌++◌, length, take, sym, subst, ◌∙◌, inl, inr, arith, append-nil, append_assoc}
use Rattle.std.specs.Prelude.{Contains, slice_index_or}
use Rattle.std.specs.List.{AllByRecursion}
use Rattle.std.specs.List.Sorted.{IsPermutation}
use Rattle.std.proofs.lemmas.Bool.{cases_lt}
use Rattle.std.proofs.lemmas.List.{get_or_default, get_or-take, length-take}
use Rattle.std.proofs.lemmas.List.Sorted.{Contains-permutation}
use Rattle.vg_shapes.specs.declared.match_table.Match.{Match}
use Rattle.vg_shapes.specs.declared.order.Node.{Node}
use Rattle.vg_shapes.specs.declared.order.Node.TheVariants.{UnitAt}
use Rattle.vg_shapes.specs.declared.pack.Pack.{Pack}
use Rattle.vg_shapes.specs.declared.ssa.Ssa.{Ssa}
use Rattle.vg_shapes.specs.Nodes.{ArePacks, nodes, units_at}
use Rattle.vg_shapes.specs.Order.{all_units, count_of, Follows, numbers_from, Stands}
use Rattle.vg_shapes.specs.Units.{arguments}
use Rattle.vg_order_laws.proofs.Plans.{nodes-have_units}
use Rattle.vg_order.specs.ByList.{IsCycleBy, IsOrderBy, LeadsToBy, node_depends_by, NodeDependsBy}
use Rattle.vg_order.specs.Laws.{OrdersHaveNoCycle}
use Rattle.vg_order.proofs.Places.{found-at, one-place}
use Rattle.vg_order.proofs.Rising.{count_of-before, count_of-past, count_of-within}

-- the node at a place
abbrev at : List Node → ℕ → Node
at ns k = slice_index_or ns k (UnitAt 0)

-- a unit on which a node depends stands before it
follows-at : (depends : Node → ℕ → Bool) (units : Node → List ℕ) (done ns : List Node) (k x : ℕ) → Follows depends units done ns → k < length ns → depends (at ns k) x ≡ true → Stands x (all_units units (done ++ take k ns))
follows-at depends units done [] k x follows h d = absurd (omega arith)
follows-at depends units done (n ∷ ns) zero x follows h d = subst (λ l. Stands x (all_units units l)) (sym (append-nil done)) (follows.0 x d)
follows-at depends units done (n ∷ ns) (suc k) x follows h d =
    subst (λ l. Stands x (all_units units l)) (append_assoc done (n ∷ []) (take k ns))
    (follows-at depends units (done ++ n ∷ []) ns k x follows.1 (omega arith) d)

-- each unit stands once
pub units-once : (ssa : Ssa) (packs : List Pack) (order : List Node) (x : ℕ) → ArePacks ssa packs → IsPermutation (nodes ssa packs) order → count_of x (all_units (units_at packs) order) < 2
units-once ssa packs order x good p =
    let same = nodes-have_units ssa packs order good p x in
    let most = at-most x (arguments ssa) (length ssa.units) in
    omega arith
  where
    at-most : (x first n : ℕ) → count_of x (numbers_from first n) ≤ 1
    at-most x first n = elim (cases_lt x first) [
      | inl before ↦ (let e = count_of-before x first n before in omega arith)
      | inr low ↦ elim (cases_lt x (first + n)) [
        | inl high ↦ (let e = count_of-within x first n low high in omega arith)
        | inr past ↦ (let e = count_of-past x first n past in omega arith)
      ]
    ]

-- a node on which the node at a place depends stands at an earlier place
earlier : (deps : List (ℕ × ℕ)) (ssa : Ssa) (matches : List Match) (packs : List Pack) (order : List Node) (k : ℕ) (n m : Node) → ArePacks ssa packs → IsOrderBy deps ssa matches packs order
    → k < length order → at order k ≡ n → NodeDependsBy deps ssa matches packs n m → Contains (nodes ssa packs) m → (j : ℕ) × (j < k) × (at order j ≡ m)
earlier deps ssa matches packs order k n m good is h e d c =
    let x = d.0 in
    let units = units_at packs in
    let there = Contains-permutation (nodes ssa packs) order m is.once c in
    let p = there.0 in
    let node : at order p ≡ m = get_or_default order p (UnitAt 0) m there.1 ∙ there.2 in
    let before = follows-at (node_depends_by deps ssa matches packs) units [] order k x is.follows h (subst (λ q. node_depends_by deps ssa matches packs q x ≡ true) (sym e) d.2) in
    let found = found-at units (UnitAt 0) x (take k order) before in
    let j = found.0 in
    let less : j < k = (let b = found.1 in let l = length-take k order in omega arith) in
    let inside : j < length order = omega arith in
    let here : Stands x (units (at order j)) = subst (λ q. Stands x (units q)) (get_or-take k order j (UnitAt 0) less) found.2 in
    let same : j ≡ p = one-place units (UnitAt 0) x order j p (units-once ssa packs order x good is.once) inside there.1 here (subst (λ q. Stands x (units q)) (sym node) d.1) in
    (p, omega arith, node)

-- along a chain to its end
chain : (deps : List (ℕ × ℕ)) (ssa : Ssa) (matches : List Match) (packs : List Pack) (order : List Node) (k : ℕ) (n last : Node) (ms : List Node) → ArePacks ssa packs → IsOrderBy deps ssa matches packs order
    → k < length order → at order k ≡ n → LeadsToBy deps ssa matches packs last n ms → AllByRecursion (Contains (nodes ssa packs)) ms → Contains (nodes ssa packs) last → (j : ℕ) × (j < k) × (at order j ≡ last)
chain deps ssa matches packs order k n last [] good is h e leads all c = earlier deps ssa matches packs order k n last good is h e leads c
chain deps ssa matches packs order k n last (m ∷ ms) good is h e leads all c =
    let next = earlier deps ssa matches packs order k n m good is h e leads.0 all.0 in
    let less = next.1 in
    let rest = chain deps ssa matches packs order next.0 m last ms good is (omega arith) next.2 leads.1 all.1 c in
    (rest.0, (let b = rest.1 in omega arith), rest.2)

-- no place is left for the first node of a cycle
no-place : (deps : List (ℕ × ℕ)) (ssa : Ssa) (matches : List Match) (packs : List Pack) (order : List Node) (n : Node) (ms : List Node) (bound k : ℕ) → ArePacks ssa packs → IsOrderBy deps ssa matches packs order
    → IsCycleBy deps ssa matches packs (n ∷ ms) → k < bound → k < length order → at order k ≡ n → ⊥
no-place deps ssa matches packs order n ms zero k good is cycle b h e = absurd (omega arith)
no-place deps ssa matches packs order n ms (suc bound) k good is cycle b h e =
    let back = chain deps ssa matches packs order k n n ms good is h e cycle.1 cycle.0.1 cycle.0.0 in
    let less = back.1 in
    no-place deps ssa matches packs order n ms bound back.0 good is cycle (omega arith) (omega arith) back.2

pub orders-have_no_cycle : OrdersHaveNoCycle
orders-have_no_cycle deps ssa matches packs order [] good is cycle = cycle
orders-have_no_cycle deps ssa matches packs order (n ∷ ms) good is cycle =
    let there = Contains-permutation (nodes ssa packs) order n is.once cycle.0.0 in
    no-place deps ssa matches packs order n ms (suc there.0) there.0 good is cycle (omega arith) there.1 (get_or_default order there.0 (UnitAt 0) n there.1 ∙ there.2)
