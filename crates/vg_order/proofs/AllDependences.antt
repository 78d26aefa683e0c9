-- By the list of all dependences of a kernel, orders and cycles are those of the kernel.
use Rattle.std.proofs.Common.{◌≡◌, ℕ, zero, suc, ◌+◌, ◌-◌, ◌≤◌, Bool, false, List, [], ◌∷◌, ◌++◌, length, map, Option, Some, None, refl, sym, ap, subst, ◌∙◌, arith}
use Rattle.std.specs.Prelude.{nat_lt, slice_get, ◌||◌}
use Rattle.std.specs.List.{list_any}
use Rattle.std.specs.List.Sorted.{IsPermutation}
use Rattle.std.specs.Option.{option_map_or}
use Rattle.std.proofs.lemmas.Bool.{and_parts, ltb-true}
use Rattle.std.proofs.lemmas.List.Concat.{flat_map-append}
use Rattle.std.proofs.lemmas.List.Sorted.{IsPermutation-refl}
use Rattle.vg_shapes.specs.declared.match_table.Match.{Match}
use Rattle.vg_shapes.specs.declared.order.Node.{Node}
use Rattle.vg_shapes.specs.declared.order.Node.TheVariants.{PackAt, UnitAt}
use Rattle.vg_shapes.specs.declared.pack.Pack.{Pack}
use Rattle.vg_shapes.specs.declared.pack.Pack.TheVariants.{Stores, Loads, Call}
use Rattle.vg_shapes.specs.declared.ssa.Ssa.{Ssa}
use Rattle.vg_shapes.specs.DepList.{is_listed}
use Rattle.vg_shapes.specs.Depends.{dependences, depends_on}
use Rattle.vg_shapes.specs.Nodes.{IsCycle, LeadsTo, node_depends, pack_depends, units_at}
use Rattle.vg_shapes.specs.Order.{all_units, count_of, Follows, numbers_from}
use Rattle.vg_shapes.specs.Units.{arguments, is_unit}
use Rattle.vg_deps.proofs.Pairs.{lists-dependences}
use Rattle.vg_order.specs.ByList.{IsCycleBy, LeadsToBy, NameLesser, NameUnits, node_depends_by, pack_depends_by}
use Rattle.vg_order.specs.Laws.{DependencesGiveOrders, DependencesNameUnits, NumbersAreAnOrder}
use Rattle.vg_order.proofs.Building.{numbers_from-more}
use Rattle.vg_order.proofs.Graphs.{unit-inside}
use Rattle.vg_order.proofs.Orders.{empty-nodes}
use Rattle.vg_order.proofs.Rising.{count_of-within}

any-same : (p q : ℕ → Bool) (us : List ℕ) → ((u : ℕ) → p u ≡ q u) → list_any p us ≡ list_any q us
any-same p q [] h = refl
any-same p q (u ∷ us) h = λ i. h u i || any-same p q us h i

pack-same : (ssa : Ssa) (matches : List Match) (p : Pack) (x : ℕ) → pack_depends_by (dependences ssa) ssa matches p x ≡ pack_depends ssa matches p x
pack-same ssa matches (Stores us) x = any-same (λ u. is_listed (dependences ssa) u x) (λ u. depends_on ssa u x) us (λ u. lists-dependences ssa u x)
pack-same ssa matches (Loads us) x = any-same (λ u. is_listed (dependences ssa) u x) (λ u. depends_on ssa u x) us (λ u. lists-dependences ssa u x)
pack-same ssa matches (Call d lanes) x = refl

node-same : (ssa : Ssa) (matches : List Match) (packs : List Pack) (n : Node) (x : ℕ) → node_depends_by (dependences ssa) ssa matches packs n x ≡ node_depends ssa matches packs n x
node-same ssa matches packs (UnitAt v) x = lists-dependences ssa v x
node-same ssa matches packs (PackAt k) x = by (slice_get packs k)
  where
    by : (o : Option Pack) → option_map_or (λ p. pack_depends_by (dependences ssa) ssa matches p x) o false ≡ option_map_or (λ p. pack_depends ssa matches p x) o false
    by None = refl
    by (Some p) = pack-same ssa matches p x

-- another test that gives the same
follows-same : (depends other : Node → ℕ → Bool) (units : Node → List ℕ) (done ns : List Node) → ((n : Node) (x : ℕ) → depends n x ≡ other n x) → Follows depends units done ns → Follows other units done ns
follows-same depends other units done [] h f = tt
follows-same depends other units done (n ∷ ns) h f = (λ x d. f.0 x (h n x ∙ d), follows-same depends other units (done ++ n ∷ []) ns h f.1)

leads-to : (ssa : Ssa) (matches : List Match) (packs : List Pack) (last n : Node) (ms : List Node) → LeadsToBy (dependences ssa) ssa matches packs last n ms → LeadsTo ssa matches packs last n ms
leads-to ssa matches packs last n [] d = (d.0, d.1, sym (node-same ssa matches packs n d.0) ∙ d.2)
leads-to ssa matches packs last n (m ∷ ms) d = ((d.0.0, d.0.1, sym (node-same ssa matches packs n d.0.0) ∙ d.0.2), leads-to ssa matches packs last m ms d.1)

leads-by : (ssa : Ssa) (matches : List Match) (packs : List Pack) (last n : Node) (ms : List Node) → LeadsTo ssa matches packs last n ms → LeadsToBy (dependences ssa) ssa matches packs last n ms
leads-by ssa matches packs last n [] d = (d.0, d.1, node-same ssa matches packs n d.0 ∙ d.2)
leads-by ssa matches packs last n (m ∷ ms) d = ((d.0.0, d.0.1, node-same ssa matches packs n d.0.0 ∙ d.0.2), leads-by ssa matches packs last m ms d.1)

cycle-to : (ssa : Ssa) (matches : List Match) (packs : List Pack) (ns : List Node) → IsCycleBy (dependences ssa) ssa matches packs ns → IsCycle ssa matches packs ns
cycle-to ssa matches packs [] c = c
cycle-to ssa matches packs (n ∷ ns) c = (c.0, leads-to ssa matches packs n n ns c.1)

cycle-by : (ssa : Ssa) (matches : List Match) (packs : List Pack) (ns : List Node) → IsCycle ssa matches packs ns → IsCycleBy (dependences ssa) ssa matches packs ns
cycle-by ssa matches packs [] c = c
cycle-by ssa matches packs (n ∷ ns) c = (c.0, leads-by ssa matches packs n n ns c.1)

pub dependences-give_orders : DependencesGiveOrders
dependences-give_orders ssa matches packs ns = (
  (
    λ is. record { once = is.once; follows = follows-same (node_depends_by (dependences ssa) ssa matches packs) (node_depends ssa matches packs) (units_at packs) [] ns (node-same ssa matches packs) is.follows },
    λ is. record { once = is.once; follows = follows-same (node_depends ssa matches packs) (node_depends_by (dependences ssa) ssa matches packs) (units_at packs) [] ns (λ n x. sym (node-same ssa matches packs n x)) is.follows },
  ),
  (cycle-to ssa matches packs ns, cycle-by ssa matches packs ns),
)

pub dependences-name_units : DependencesNameUnits
dependences-name_units ssa = (
  λ v x e. (and_parts (is_unit ssa x) _ (sym (lists-dependences ssa v x) ∙ e)).0,
  λ v x e. ltb-true x v (and_parts (nat_lt x v) _ (and_parts (is_unit ssa x) _ (sym (lists-dependences ssa v x) ∙ e)).1).0,
)

-- ---- the units in their order

all-push : (done : List Node) (first v : ℕ) → all_units (units_at []) done ≡ numbers_from first (v - first) → first ≤ v → all_units (units_at []) (done ++ UnitAt v ∷ []) ≡ numbers_from first (v + 1 - first)
all-push done first v e low =
    let next : suc (v - first) ≡ v + 1 - first = omega arith in
    let here : first + (v - first) ≡ v = omega arith in
    flat_map-append (units_at []) done (UnitAt v ∷ []) ∙ (λ i. e i ++ v ∷ []) ∙ ap (λ k. numbers_from first (v - first) ++ k ∷ []) (sym here) ∙ sym (numbers_from-more first (v - first)) ∙ ap (numbers_from first) next

numbers-follow : (deps : List (ℕ × ℕ)) (ssa : Ssa) (matches : List Match) (done : List Node) (v n : ℕ) → NameUnits ssa deps → NameLesser deps → arguments ssa ≤ v → all_units (units_at []) done ≡ numbers_from (arguments ssa) (v - arguments ssa)
    → Follows (node_depends_by deps ssa matches []) (units_at []) done (map UnitAt (numbers_from v n))
numbers-follow deps ssa matches done v zero names less low e = tt
numbers-follow deps ssa matches done v (suc n) names less low e = (
  λ x d. (
      let below = less v x d in
      let inside = unit-inside ssa x (names v x d) in
      let first = inside.0 in
      let one = count_of-within x (arguments ssa) (v - arguments ssa) first (omega arith) in
      let same : count_of x (all_units (units_at []) done) ≡ count_of x (numbers_from (arguments ssa) (v - arguments ssa)) = ap (count_of x) e in
      omega arith),
  numbers-follow deps ssa matches (done ++ UnitAt v ∷ []) (v + 1) n names less (omega arith) (all-push done (arguments ssa) v e low),
)

pub numbers-are_an_order : NumbersAreAnOrder
numbers-are_an_order deps ssa matches names less =
    let first = arguments ssa in
    let none : first - first ≡ 0 = omega arith in
    record {
      once = subst (λ l. IsPermutation l (map UnitAt (numbers_from first (length ssa.units)))) (sym (empty-nodes ssa)) (IsPermutation-refl (map UnitAt (numbers_from first (length ssa.units))));
      follows = numbers-follow deps ssa matches [] first (length ssa.units) names less (omega arith) (sym (ap (numbers_from first) none));
    }
