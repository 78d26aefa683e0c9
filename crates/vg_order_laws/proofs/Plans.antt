-- The units of a legal order of packs and units run as all units do in the order of their numbers.
use Rattle.std.proofs.Common.{◌≡◌, ℕ, zero, suc, ◌+◌, ◌-◌, ◌<◌, ◌≤◌, Bool, true, false, List, [], ◌∷◌, ◌++◌, length, map, Option, Some, None, refl, sym, ap, subst, ◌∙◌, arith, append-nil, append_assoc, inl, inr}
use Rattle.std.specs.Prelude.{filter, nat_eq, nat_lt, not, slice_get, sum_by, ◌&&◌, ◌||◌, ◌==◌, if◌then◌else◌}
use Rattle.std.specs.List.{AllByRecursion, flat_map, list_any}
use Rattle.std.specs.List.Sorted.{IsPermutation}
use Rattle.std.specs.Option.{is_some, option_map_or}
use Rattle.std.proofs.lemmas.Bool.{cases_Bool, cases_lt, cond-true, cond-false, eqb-true, eqb-false, eq-eqb, ltb-false, true≢false}
use Rattle.std.proofs.lemmas.List.{length-append}
use Rattle.std.proofs.lemmas.List.Concat.{flat_map-append}
use Rattle.std.proofs.lemmas.List.Sorted.{sum_by-IsPermutation}
use Rattle.std.proofs.lemmas.List.Sums.{sum_by-cons}
use Rattle.vg_base.specs.Trap.{◌>>=◌}
use Rattle.vg_shapes.specs.declared.access.Access.{Access}
use Rattle.vg_shapes.specs.declared.match_table.Match.{Match}
use Rattle.vg_shapes.specs.declared.order.Node.{Node}
use Rattle.vg_shapes.specs.declared.order.Node.TheVariants.{PackAt, UnitAt}
use Rattle.vg_shapes.specs.declared.pack.Pack.{Pack}
use Rattle.vg_shapes.specs.declared.pack.Pack.TheVariants.{Stores, Loads, Call}
use Rattle.vg_shapes.specs.declared.ssa.Ssa.{Ssa}
use Rattle.vg_shapes.specs.declared.ssa_unit.SsaUnit.{SsaUnit}
use Rattle.vg_shapes.specs.Depends.{conflict_at, conflict_of, depends_on, uses_at}
use Rattle.vg_shapes.specs.Layout.{access_at, access_of, noalias_flags}
use Rattle.vg_shapes.specs.Nodes.{ArePacks, CallsOperations, is_packed, IsOrder, node_depends, nodes, pack_depends, packed, units_at}
use Rattle.vg_shapes.specs.Order.{all_units, count_of, numbers_from, one_if, Stands}
use Rattle.vg_shapes.specs.Pack.{units_of}
use Rattle.vg_shapes.specs.Units.{arguments, is_unit, unit_at}
use Rattle.vg_order_laws.specs.Laws.{AreUnits, conflicts, PlanOrdersRun}
use Rattle.vg_order_laws.specs.Steps.{unit_numbers}
use Rattle.vg_order_laws.proofs.Legal.{legal-order-runs}
use Rattle.vg_order_laws.proofs.Sequences.{count_of-append, count_of-earlier}

-- ---- each unit stands in an order once

-- a number stands in the units of nodes as often as in those of each node together
count_of-units : {N : Type 0} (units : N → List ℕ) (x : ℕ) (ns : List N) → count_of x (flat_map units ns) ≡ sum_by (λ n. count_of x (units n)) ns
count_of-units units x [] = refl
count_of-units units x (n ∷ ns) = count_of-append x (units n) (flat_map units ns) ∙ ap (λ k. count_of x (units n) + k) (count_of-units units x ns) ∙ sym (sum_by-cons (λ m. count_of x (units m)) n ns)

pub count_of-permuted : {N : Type 0} (units : N → List ℕ) (x : ℕ) (ns ms : List N) → IsPermutation ns ms → count_of x (flat_map units ms) ≡ count_of x (flat_map units ns)
count_of-permuted units x ns ms p = count_of-units units x ms ∙ sum_by-IsPermutation (λ n. count_of x (units n)) ns ms p ∙ sym (count_of-units units x ns)

seam : (done : List Pack) (p : Pack) (rest : List Pack) → slice_get (done ++ p ∷ rest) (length done) ≡ Some p
seam [] p rest = refl
seam (d ∷ done) p rest = seam done p rest

-- the packs from an index on
pack-units : (packs done rest : List Pack) → packs ≡ done ++ rest → flat_map (units_at packs) (map PackAt (numbers_from (length done) (length rest))) ≡ packed rest
pack-units packs done [] e = refl
pack-units packs done (p ∷ rest) e =
    let here : units_at packs (PackAt (length done)) ≡ units_of p = ap (λ o. option_map_or units_of o []) (ap (λ l. slice_get l (length done)) e ∙ seam done p rest) in
    let next : length done + 1 ≡ length (done ++ p ∷ []) = sym (length-append done (p ∷ [])) in
    (λ i. here i ++ flat_map (units_at packs) (map PackAt (numbers_from (next i) (length rest))))
    ∙ ap (λ l. units_of p ++ l) (pack-units packs (done ++ p ∷ []) rest (e ∙ sym (append_assoc done (p ∷ []) rest)))

unit-units : (packs : List Pack) (vs : List ℕ) → flat_map (units_at packs) (map UnitAt vs) ≡ vs
unit-units packs [] = refl
unit-units packs (v ∷ vs) = ap (λ l. v ∷ l) (unit-units packs vs)

pub node-units : (ssa : Ssa) (packs : List Pack) → flat_map (units_at packs) (nodes ssa packs) ≡ packed packs ++ filter (λ v. not (is_packed packs v)) (unit_numbers ssa)
node-units ssa packs =
    flat_map-append (units_at packs) (map PackAt (numbers_from 0 (length packs))) _
    ∙ (λ i. pack-units packs [] packs refl i ++ unit-units packs (filter (λ v. not (is_packed packs v)) (unit_numbers ssa)) i)

-- what stands in a list is found there
pub found-stands : (x : ℕ) (ys : List ℕ) → list_any (nat_eq x) ys ≡ true → Stands x ys
found-stands x [] e = absurd (cc)
found-stands x (y ∷ ys) e = elim (cases_Bool (nat_eq x y)) [
  | inl t ↦ (let one : one_if (x == y) ≡ 1 = ap one_if t in omega arith)
  | inr f ↦ (let rest = found-stands x ys (sym (ap (λ b. b || list_any (nat_eq x) ys) f) ∙ e) in omega arith)
]

unfound-none : (x : ℕ) (ys : List ℕ) → list_any (nat_eq x) ys ≡ false → count_of x ys ≡ 0
unfound-none x [] e = refl
unfound-none x (y ∷ ys) e = elim (cases_Bool (nat_eq x y)) [
  | inl t ↦ absurd (true≢false (sym (ap (λ b. b || list_any (nat_eq x) ys) t) ∙ e))
  | inr f ↦ (let none : one_if (x == y) ≡ 0 = ap one_if f in let rest = unfound-none x ys (sym (ap (λ b. b || list_any (nat_eq x) ys) f) ∙ e) in omega arith)
]

-- a number that passes is left as often as it stood, and one that does not is gone
count_of-kept : (test : ℕ → Bool) (x : ℕ) (ys : List ℕ) → count_of x (filter test ys) ≡ (if test x then count_of x ys else 0)
count_of-kept test x ys = elim (cases_Bool (test x)) [
  | inl t ↦ passing ys t ∙ sym (cond-true _ _ _ t)
  | inr f ↦ failing ys f ∙ sym (cond-false _ _ _ f)
]
  where
    passing : (ys : List ℕ) → test x ≡ true → count_of x (filter test ys) ≡ count_of x ys
    passing [] t = refl
    passing (y ∷ ys) t = elim (cases_Bool (test y)) [
      | inl u ↦ ap (count_of x) (cond-true _ _ _ u) ∙ ap (λ n. one_if (x == y) + n) (passing ys t)
      | inr f ↦ ap (count_of x) (cond-false _ _ _ f) ∙ passing ys t
          ∙ elim (cases_Bool (x == y)) [
            | inl same ↦ absurd (true≢false (sym t ∙ ap test (eqb-true x y same) ∙ f))
            | inr other ↦ (let none : one_if (x == y) ≡ 0 = ap one_if other in omega arith)
          ]
    ]

    failing : (ys : List ℕ) → test x ≡ false → count_of x (filter test ys) ≡ 0
    failing [] f = refl
    failing (y ∷ ys) f = elim (cases_Bool (test y)) [
      | inl u ↦ ap (count_of x) (cond-true _ _ _ u)
          ∙ elim (cases_Bool (x == y)) [
            | inl same ↦ absurd (true≢false (sym u ∙ ap test (sym (eqb-true x y same)) ∙ f))
            | inr other ↦ (let none : one_if (x == y) ≡ 0 = ap one_if other in let rest = failing ys f in omega arith)
          ]
      | inr g ↦ ap (count_of x) (cond-false _ _ _ g) ∙ failing ys f
    ]

-- the numbers of units
count_of-within : (x first n : ℕ) → first ≤ x → x < first + n → count_of x (numbers_from first n) ≡ 1
count_of-within x first zero low high = absurd (omega arith)
count_of-within x first (suc n) low high = elim (cases_Bool (x == first)) [
  | inl t ↦ (let e = eqb-true x first t in let one : one_if (x == first) ≡ 1 = ap one_if t in let none = count_of-earlier x (first + 1) n (omega arith) in omega arith)
  | inr f ↦ (let e = eqb-false x first f in let none : one_if (x == first) ≡ 0 = ap one_if f in let rest = count_of-within x (first + 1) n (omega arith) (omega arith) in omega arith)
]

slice_get-some : {A : Type 0} (xs : List A) (k : ℕ) → is_some (slice_get xs k) ≡ true → k < length xs
slice_get-some [] k e = absurd (cc)
slice_get-some (x ∷ xs) zero e = omega arith
slice_get-some (x ∷ xs) (suc k) e = let rest = slice_get-some xs k e in omega arith

count_of-unit : (ssa : Ssa) (x : ℕ) → is_unit ssa x ≡ true → count_of x (unit_numbers ssa) ≡ 1
count_of-unit ssa x e = elim (cases_Bool (nat_lt x (arguments ssa))) [
  | inl t ↦ absurd (true≢false (sym e ∙ ap is_some (cond-true _ _ _ t)))
  | inr f ↦
      let low = not-less x (arguments ssa) f in
      let below = slice_get-some ssa.units (x - arguments ssa) (sym (ap is_some (cond-false _ _ _ f)) ∙ e) in
      count_of-within x (arguments ssa) (length ssa.units) low (omega arith)
]
  where
    not-less : (a b : ℕ) → nat_lt a b ≡ false → b ≤ a
    not-less a b f = ltb-false a b f

-- whatever order the nodes are in
pub nodes-have_units : (ssa : Ssa) (packs : List Pack) (order : List Node) → ArePacks ssa packs → IsPermutation (nodes ssa packs) order → AreUnits ssa (all_units (units_at packs) order)
nodes-have_units ssa packs order good same x =
    let outside = filter (λ v. not (is_packed packs v)) (unit_numbers ssa) in
    let all : count_of x (all_units (units_at packs) order) ≡ count_of x (packed packs) + count_of x outside =
    count_of-permuted (units_at packs) x (nodes ssa packs) order same ∙ ap (count_of x) (node-units ssa packs) ∙ count_of-append x (packed packs) outside in
    let kept : count_of x outside ≡ (if not (is_packed packs x) then count_of x (unit_numbers ssa) else 0) = count_of-kept (λ v. not (is_packed packs v)) x (unit_numbers ssa) in
    let most = good.once x in
    elim (cases_Bool (is_packed packs x)) [
      | inl t ↦
          let some = found-stands x (packed packs) t in
          let gone : count_of x outside ≡ 0 = kept ∙ ap (λ b. if not b then count_of x (unit_numbers ssa) else 0) t in
          elim (cases_Bool (is_unit ssa x)) [
            | inl u ↦ (let one = count_of-unit ssa x u in let bound : one_if (is_unit ssa x) ≡ 1 = ap one_if u in omega arith)
            | inr f ↦ absurd (let bound : one_if (is_unit ssa x) ≡ 0 = ap one_if f in omega arith)
          ]
      | inr f ↦
          let none = unfound-none x (packed packs) f in
          let left : count_of x outside ≡ count_of x (unit_numbers ssa) = kept ∙ ap (λ b. if not b then count_of x (unit_numbers ssa) else 0) f in
          omega arith
    ]

-- ---- nodes depend on what their units conflict with

any-weaker : (p q : ℕ → Bool) (us : List ℕ) → ((u : ℕ) → p u ≡ true → q u ≡ true) → list_any p us ≡ true → list_any q us ≡ true
any-weaker p q [] h e = absurd (cc)
any-weaker p q (u ∷ us) h e = elim (cases_Bool (p u)) [
  | inl t ↦ ap (λ b. b || list_any q us) (h u t)
  | inr f ↦ second (q u) (list_any q us) (any-weaker p q us h (sym (ap (λ b. b || list_any p us) f) ∙ e))
]
  where
    second : (a b : Bool) → b ≡ true → (a || b) ≡ true
    second true b e = refl
    second false b e = e

both-true : (a b : Bool) → (a && b) ≡ true → (a ≡ true) × (b ≡ true)
both-true true true e = (refl, refl)
both-true true false e = absurd (cc)
both-true false b e = absurd (cc)

conflict-unit : (flags : List Bool) (o : Option SsaUnit) (y : Option Access) → conflict_of flags (o >>= access_of) y ≡ true → is_some o ≡ true
conflict-unit flags None y e = absurd (cc)
conflict-unit flags (Some u) y e = refl

conflict-depends : (ssa : Ssa) (x y : ℕ) → (nat_lt x y && conflict_at ssa x y) ≡ true → depends_on ssa y x ≡ true
conflict-depends ssa x y e =
    let two = both-true (nat_lt x y) (conflict_at ssa x y) e in
    all-three (is_unit ssa x) (nat_lt x y) (uses_at ssa y x) (conflict_at ssa x y) (conflict-unit (noalias_flags ssa) (unit_at ssa x) (access_at ssa y) two.1) two.0 two.1
  where
    all-three : (a b c d : Bool) → a ≡ true → b ≡ true → d ≡ true → (a && (b && (c || d))) ≡ true
    all-three true true true d e f g = refl
    all-three true true false d e f g = g
    all-three true false c d e f g = absurd (cc)
    all-three false b c d e f g = absurd (cc)

-- units without accesses conflict with none
none-conflict : (ssa : Ssa) (us : List ℕ) (x : ℕ) → AllByRecursion (λ v. access_at ssa v ≡ None) us → conflicts ssa us x ≡ false
none-conflict ssa [] x all = refl
none-conflict ssa (u ∷ us) x all =
    (λ i. (nat_lt x u && none i) || conflicts ssa us x) ∙ ap (λ b. b || conflicts ssa us x) (nothing (nat_lt x u)) ∙ none-conflict ssa us x all.1
  where
    free : (o : Option Access) → conflict_of (noalias_flags ssa) o None ≡ false
    free None = refl
    free (Some y) = refl

    none : conflict_at ssa x u ≡ false
    none = ap (conflict_of (noalias_flags ssa) (access_at ssa x)) all.0 ∙ free (access_at ssa x)

    nothing : (a : Bool) → (a && false) ≡ false
    nothing true = refl
    nothing false = refl

pack-sees : (ssa : Ssa) (matches : List Match) (p : Pack) (x : ℕ) → CallsOperations ssa p → conflicts ssa (units_of p) x ≡ true → pack_depends ssa matches p x ≡ true
pack-sees ssa matches (Stores us) x calls e = any-weaker (λ y. nat_lt x y && conflict_at ssa x y) (λ u. depends_on ssa u x) us (conflict-depends ssa x) e
pack-sees ssa matches (Loads us) x calls e = any-weaker (λ y. nat_lt x y && conflict_at ssa x y) (λ u. depends_on ssa u x) us (conflict-depends ssa x) e
pack-sees ssa matches (Call d lanes) x calls e = absurd (true≢false (sym e ∙ none-conflict ssa (units_of (Call d lanes)) x calls))

listed-pack : (ssa : Ssa) (packs : List Pack) (k : ℕ) (p : Pack) → AllByRecursion (CallsOperations ssa) packs → slice_get packs k ≡ Some p → CallsOperations ssa p
listed-pack ssa [] k p all e = absurd (cc)
listed-pack ssa (q ∷ packs) zero p all e = let same : q ≡ p = cc in subst (CallsOperations ssa) same all.0
listed-pack ssa (q ∷ packs) (suc k) p all e = listed-pack ssa packs k p all.1 e

nodes-see : (ssa : Ssa) (matches : List Match) (packs : List Pack) → ArePacks ssa packs → (n : Node) (x : ℕ) → conflicts ssa (units_at packs n) x ≡ true → node_depends ssa matches packs n x ≡ true
nodes-see ssa matches packs good (UnitAt v) x e = conflict-depends ssa x v (single (nat_lt x v && conflict_at ssa x v) e)
  where
    single : (a : Bool) → (a || false) ≡ true → a ≡ true
    single true e = refl
    single false e = absurd (cc)
nodes-see ssa matches packs good (PackAt k) x e = by (slice_get packs k) refl e
  where
    by : (o : Option Pack) → slice_get packs k ≡ o → conflicts ssa (option_map_or units_of o []) x ≡ true → option_map_or (λ p. pack_depends ssa matches p x) o false ≡ true
    by None g h = absurd (cc)
    by (Some p) g h = pack-sees ssa matches p x (listed-pack ssa packs k p good.calls g) h

pub plan-orders-run : PlanOrdersRun
plan-orders-run ssa places numbers matches packs order respects good legal =
    legal-order-runs ssa places numbers (units_at packs) (node_depends ssa matches packs) order respects
    (nodes-see ssa matches packs good) legal.follows (nodes-have_units ssa packs order good legal.once)
