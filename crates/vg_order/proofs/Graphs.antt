-- The graph that is made of a plan is the one that the plan has.
use Rattle.std.proofs.Common.{◌≡◌, ℕ, zero, suc, ◌+◌, ◌-◌, ◌<◌, ◌≤◌, Bool, true, false, List, [], ◌∷◌, ◌++◌, length, map, Option, Some, None, refl, sym, ap, subst, ◌∙◌, inl, inr, arith, get_or}
use Rattle.std.specs.Prelude.{filter, nat_eq, nat_lt, not, slice_get, slice_index, slice_index_or, ◌==◌, ◌||◌}
use Rattle.std.specs.List.{list_any}
use Rattle.std.specs.Option.{is_none, is_some}
use Rattle.std.proofs.lemmas.Bool.{cases_Bool, cond-false, cond-true, eq-eqb, ltb-false, true≢false}
use Rattle.std.proofs.lemmas.List.{get_or-map, get_or_append_left, get_or_default, length-append, length-map, map-append}
use Rattle.vg_shapes.specs.declared.match_table.Match.{Match}
use Rattle.vg_shapes.specs.declared.order.Node.{Node}
use Rattle.vg_shapes.specs.declared.order.Node.TheVariants.{PackAt, UnitAt}
use Rattle.vg_shapes.specs.declared.pack.Pack.{Pack}
use Rattle.vg_shapes.specs.declared.ssa.Ssa.{Ssa}
use Rattle.vg_shapes.specs.Nodes.{ArePacks, is_packed, nodes, packed, units_at}
use Rattle.vg_shapes.specs.Order.{count_of, numbers_from, one_if, Stands}
use Rattle.vg_shapes.specs.Units.{arguments, is_unit}
use Rattle.vg_order.specs.declared.needs.Needs.{Needs}
use Rattle.vg_order.specs.declared.needs.Needs.TheVariants.{RowsOf}
use Rattle.vg_order.specs.Graphs.{AreOwners, free_from, IsGraphOf, IsHome, IsOwner, node_needs}
use Rattle.vg_order.proofs.Building.{pack-units, packed-has}

-- ---- numbers

pub length-numbers : (first n : ℕ) → length (numbers_from first n) ≡ n
length-numbers first zero = refl
length-numbers first (suc n) = omega (arith, length-numbers (first + 1) n)

pub numbers-at : (first n k : ℕ) → k < n → get_or (numbers_from first n) k 0 ≡ first + k
numbers-at first zero k h = absurd (omega arith)
numbers-at first (suc n) zero h = omega arith
numbers-at first (suc n) (suc k) h = numbers-at (first + 1) n k (omega arith) ∙ (let e : first + 1 + k ≡ first + suc k = omega arith in e)

length-filter : {A : Type 0} (p : A → Bool) (xs : List A) → length (filter p xs) ≤ length xs
length-filter p [] = omega arith
length-filter p (x ∷ xs) = elim (cases_Bool (p x)) [
  | inl t ↦ (let e : length (filter p (x ∷ xs)) ≡ suc (length (filter p xs)) = ap length (cond-true _ _ _ t) in omega (arith, length-filter p xs))
  | inr f ↦ (let e : length (filter p (x ∷ xs)) ≡ length (filter p xs) = ap length (cond-false _ _ _ f) in omega (arith, length-filter p xs))
]

filter-same : {A : Type 0} (p q : A → Bool) (xs : List A) → ((x : A) → p x ≡ q x) → filter p xs ≡ filter q xs
filter-same p q [] h = refl
filter-same p q (x ∷ xs) h = elim (cases_Bool (p x)) [
  | inl t ↦ cond-true _ _ _ t ∙ ap (λ l. x ∷ l) (filter-same p q xs h) ∙ sym (cond-true _ _ _ (sym (h x) ∙ t))
  | inr f ↦ cond-false _ _ _ f ∙ filter-same p q xs h ∙ sym (cond-false _ _ _ (sym (h x) ∙ f))
]

-- ---- owners

pub none-found : (x : ℕ) (ys : List ℕ) → count_of x ys ≡ 0 → list_any (nat_eq x) ys ≡ false
none-found x [] h = refl
none-found x (y ∷ ys) h = elim (cases_Bool (x == y)) [
  | inl t ↦ absurd (let one : one_if (x == y) ≡ 1 = ap one_if t in omega arith)
  | inr f ↦ ap (λ b. b || list_any (nat_eq x) ys) f ∙ none-found x ys (let none : one_if (x == y) ≡ 0 = ap one_if f in omega arith)
]

pub stands-found : (x : ℕ) (ys : List ℕ) → Stands x ys → list_any (nat_eq x) ys ≡ true
stands-found x [] h = absurd (omega arith)
stands-found x (y ∷ ys) h = elim (cases_Bool (x == y)) [
  | inl t ↦ ap (λ b. b || list_any (nat_eq x) ys) t
  | inr f ↦ ap (λ b. b || list_any (nat_eq x) ys) f ∙ stands-found x ys (let none : one_if (x == y) ≡ 0 = ap one_if f in omega arith)
]

pub found-stands : (x : ℕ) (ys : List ℕ) → list_any (nat_eq x) ys ≡ true → Stands x ys
found-stands x [] e = absurd (cc)
found-stands x (y ∷ ys) e = elim (cases_Bool (x == y)) [
  | inl t ↦ (let one : one_if (x == y) ≡ 1 = ap one_if t in omega arith)
  | inr f ↦ (let rest = found-stands x ys (sym (ap (λ b. b || list_any (nat_eq x) ys) f) ∙ e) in omega arith)
]

pub pack-stands : (packs : List Pack) (k x : ℕ) → k < length packs → Stands x (units_at packs (PackAt k)) → Stands x (packed packs)
pack-stands [] k x h s = absurd (omega arith)
pack-stands (p ∷ packs) k x h s =
    let q = get_or (p ∷ packs) k p in
    let same : q ≡ get_or (p ∷ packs) k q = get_or_default (p ∷ packs) k p q h in
    packed-has (p ∷ packs) k x q h same (subst (Stands x) (pack-units (p ∷ packs) k q h same) s)

owner-packed : (packs : List Pack) (x : ℕ) (o : Option ℕ) → IsOwner packs packs x o → is_none o ≡ not (is_packed packs x)
owner-packed packs x None h = sym (ap not (none-found x (packed packs) h))
owner-packed packs x (Some k) h = sym (ap not (stands-found x (packed packs) (pack-stands packs k x h.0 h.1)))

-- ---- units of packs are units

pub slice_get-inside : {A : Type 0} (xs : List A) (k : ℕ) → is_some (slice_get xs k) ≡ true → k < length xs
slice_get-inside [] k e = absurd (cc)
slice_get-inside (x ∷ xs) zero e = omega arith
slice_get-inside (x ∷ xs) (suc k) e = let rest = slice_get-inside xs k e in omega arith

pub unit-inside : (ssa : Ssa) (x : ℕ) → is_unit ssa x ≡ true → (arguments ssa ≤ x) × (x < arguments ssa + length ssa.units)
unit-inside ssa x e = elim (cases_Bool (nat_lt x (arguments ssa))) [
  | inl t ↦ absurd (true≢false (sym e ∙ ap is_some (cond-true _ _ _ t)))
  | inr f ↦
      let low = ltb-false x (arguments ssa) f in
      let below = slice_get-inside ssa.units (x - arguments ssa) (sym (ap is_some (cond-false _ _ _ f)) ∙ e) in
      (low, omega arith)
]

pub packed-inside : (ssa : Ssa) (packs : List Pack) (first count x : ℕ) → ArePacks ssa packs → first ≡ arguments ssa → count ≡ length ssa.units → Stands x (packed packs) → x < first + count
packed-inside ssa packs first count x good f n s = elim (cases_Bool (is_unit ssa x)) [
  | inl t ↦ (let b = (unit-inside ssa x t).1 in omega arith)
  | inr e ↦ absurd (let most = good.once x in let none : one_if (is_unit ssa x) ≡ 0 = ap one_if e in omega arith)
]

-- ---- the whole

map-units : (first end : ℕ) (matches : List Match) (packs : List Pack) (vs : List ℕ) → map (node_needs first end matches packs) (map UnitAt vs) ≡ map (λ v. RowsOf (v ∷ [])) vs
map-units first end matches packs [] = refl
map-units first end matches packs (v ∷ vs) = ap (λ l. RowsOf (v ∷ []) ∷ l) (map-units first end matches packs vs)

pub few-nodes : (n count : ℕ) (nodes : List Node) (owners : List (Option ℕ)) → nodes ≡ map PackAt (numbers_from 0 n) → n ≤ 16777216 → length owners ≤ 33554432 → length nodes + length owners < 4294967296
few-nodes n count nodes owners e h l = (let m = ap length e ∙ length-map (numbers_from 0 n) PackAt ∙ length-numbers 0 n in omega arith)

pub graph-made : (ssa : Ssa) (matches : List Match) (packs : List Pack) (first count : ℕ) (before nodes_now : List Node) (was needs_now : List Needs) (owners : List (Option ℕ)) (homes : List ℕ)
    → first ≡ arguments ssa → count ≡ length ssa.units
    → (length packs ≤ 16777216) × (first ≤ 16777216) × (count ≤ 16777216)
    → before ≡ map PackAt (numbers_from 0 (length packs)) → was ≡ map (node_needs first (first + count) matches packs) before
    → length owners ≡ first + count → AreOwners packs packs owners → length homes ≡ length owners
    → nodes_now ≡ before ++ map UnitAt (free_from owners first (length owners)) → needs_now ≡ was ++ map (λ v. RowsOf (v ∷ [])) (free_from owners first (length owners))
    → ((x : ℕ) → first ≤ x → x < length owners → IsHome nodes_now x (slice_index homes x) (slice_index_or owners x None))
    → IsGraphOf ssa matches packs (record { first = first; nodes = nodes_now; needs = needs_now; homes = homes })
graph-made ssa matches packs first count before nodes_now was needs_now owners homes f n few b w long own l a m h =
    let f_needs = node_needs first (first + count) matches packs in
    let frees = free_from owners first (length owners) in
    let all : needs_now ≡ map f_needs nodes_now =
    m ∙ (λ i. w i ++ sym (map-units first (first + count) matches packs frees) i) ∙ sym (map-append f_needs before (map UnitAt frees)) ∙ ap (map f_needs) (sym a) in
    let so_many : length before ≡ length packs = ap length b ∙ length-map (numbers_from 0 (length packs)) PackAt ∙ length-numbers 0 (length packs) in
    let most : length frees ≤ length owners - first = (let x = length-filter (λ v. is_none (slice_index_or owners v None)) (numbers_from first (length owners - first)) in let y = length-numbers first (length owners - first) in omega arith) in
    let total : length nodes_now ≡ length before + length frees = ap length a ∙ length-append before (map UnitAt frees) ∙ ap (λ k. length before + k) (length-map frees UnitAt) in
    record {
      first = f;
      long = l ∙ long ∙ (λ i. f i + n i);
      nodes = a ∙ (λ i. b i ++ map UnitAt (filter-same (λ v. is_none (slice_index_or owners v None)) (λ v. not (is_packed packs v)) (numbers_from first (length owners - first)) (λ v. owner-packed packs v (slice_index_or owners v None) (own v)) i))
          ∙ (λ i. map PackAt (numbers_from 0 (length packs)) ++ map UnitAt (filter (λ v. not (is_packed packs v)) (numbers_from (f i) (so (length owners) first count long i))))
          ∙ ap (λ k. map PackAt (numbers_from 0 (length packs)) ++ map UnitAt (filter (λ v. not (is_packed packs v)) (numbers_from (arguments ssa) k))) n;
      needs = all ∙ (λ i. map (node_needs (f i) (f i + n i) matches packs) nodes_now);
      homes = λ x inside. home_is x (slice_index homes x) (slice_index_or owners x None) (own x) (h x inside.0 (let b = inside.1 in omega arith)) so_many total;
      few = ((let few_first = few.1 in let few_count = few.2 in omega arith), (let long_needs = ap length all ∙ length-map nodes_now f_needs in let p = few.0 in let q = few.1 in let r = few.2 in omega arith));
    }
  where
    so : (m first count : ℕ) → m ≡ first + count → m - first ≡ count
    so m first count e = omega arith

    one-stands : (x : ℕ) → Stands x (x ∷ [])
    one-stands x = let one : one_if (x == x) ≡ 1 = ap one_if (eq-eqb x x refl) in omega arith

    home_is : (x home : ℕ) (o : Option ℕ) → IsOwner packs packs x o → IsHome nodes_now x home o → length before ≡ length packs → length nodes_now ≡ length before + length (free_from owners first (length owners))
        → (home < length nodes_now) × Stands x (units_at packs (slice_index_or nodes_now home (UnitAt 0)))
    home_is x home None o is m t = (is.0, subst (λ q. Stands x (units_at packs q)) (sym is.1) (one-stands x))
    home_is x home (Some k) o is m t =
        let inside : k < length packs = o.0 in
        let node : slice_index_or nodes_now home (UnitAt 0) ≡ PackAt k =
        ap (λ (q : List Node). slice_index_or q home (UnitAt 0)) a ∙ ap (λ q. slice_index_or (before ++ map UnitAt (free_from owners first (length owners))) q (UnitAt 0)) is
        ∙ get_or_append_left before (map UnitAt (free_from owners first (length owners))) (UnitAt 0) k (omega arith)
        ∙ ap (λ (q : List Node). slice_index_or q k (UnitAt 0)) b
        ∙ get_or-map PackAt (numbers_from 0 (length packs)) k 0 (UnitAt 0) (let z = length-numbers 0 (length packs) in omega arith)
        ∙ ap PackAt (numbers-at 0 (length packs) k inside ∙ (let e : 0 + k ≡ k = omega arith in e)) in
        ((let e : home ≡ k = is in omega arith), subst (λ q. Stands x (units_at packs q)) (sym node) o.1)
