-- What follows from packs of a kernel, whatever the numbers and the order are.
use Rattle.std.proofs.Common.{◌≡◌, ℕ, zero, suc, ◌+◌, ◌-◌, ◌<◌, ◌≤◌, Bool, true, false, List, [], ◌∷◌, ◌++◌, length, map, Option, Some, None, refl, sym, ap, subst, ◌∙◌, inl, inr, arith}
use Rattle.std.specs.Prelude.{filter, nat_eq, not, slice_get, slice_index_or, ◌==◌, ◌||◌}
use Rattle.std.specs.List.{AllByRecursion, list_any}
use Rattle.std.specs.Option.{is_some, option_map_or}
use Rattle.std.proofs.lemmas.Bool.{cases_Bool, cases_lt, cond-false, cond-true, eqb-true, eqb-false, true≢false}
use Rattle.std.proofs.lemmas.List.Elements.{All-from_recursion, recursion_from_All}
use Rattle.std.proofs.lemmas.List.Sorted.{All-permutation}
use Rattle.vg_base.specs.declared.address.Address.{Address}
use Rattle.vg_base.specs.declared.width.Width.{Width}
use Rattle.vg_base.specs.Trap.{◌>>=◌}
use Rattle.vg_base.specs.Width.{size_of}
use Rattle.vg_shapes.specs.declared.match_table.Match.{Match}
use Rattle.vg_shapes.specs.declared.order.Node.{Node}
use Rattle.vg_shapes.specs.declared.order.Node.TheVariants.{PackAt, UnitAt}
use Rattle.vg_shapes.specs.declared.pack.Pack.{Pack}
use Rattle.vg_shapes.specs.declared.pack.Pack.TheVariants.{Stores, Loads, Call}
use Rattle.vg_shapes.specs.declared.ssa.Ssa.{Ssa}
use Rattle.vg_shapes.specs.declared.ssa_unit.SsaUnit.{SsaUnit}
use Rattle.vg_shapes.specs.declared.ssa_unit.SsaUnit.TheVariants.{Load, Store, Operation}
use Rattle.vg_shapes.specs.declared.wanted.Wanted.{Wanted}
use Rattle.vg_shapes.specs.Description.{Description}
use Rattle.vg_shapes.specs.Layout.{access_at, access_of}
use Rattle.vg_shapes.specs.Nodes.{ArePacks, CallsOperations, IsOrder, is_packed, nodes, packed, units_at}
use Rattle.vg_shapes.specs.Order.{all_units, count_of, Follows, numbers_from, one_if, Stands as In}
use Rattle.vg_shapes.specs.Pack.{AreLoads, AreStores, units_of}
use Rattle.vg_shapes.specs.Sound.{unit_bits}
use Rattle.vg_shapes.specs.Units.{arguments, is_unit, unit_at}
use Rattle.vg_order_laws.proofs.Sequences.{count_of-append}
use Rattle.vg_emission.specs.Emission.{Job, pack_at}
use Rattle.vg_emission.specs.Planned.{IsPack, values_of}
use Rattle.vg_emission.proofs.Programs.{node_units}
use Rattle.vg_emission.proofs.Readiness.{IsHolder, OnlyIn, Valued, values-loads}
use Rattle.vg_emission.proofs.Traps.{PackSides}

-- ---- lists

pub get-some : {A : Type 0} (xs : List A) (k : ℕ) (x : A) → slice_get xs k ≡ Some x → k < length xs
get-some [] k x e = cc
get-some (y ∷ xs) zero x e = omega arith
get-some (y ∷ xs) (suc k) x e = let rest = get-some xs k x e in omega arith

pub get-there : {A : Type 0} (xs : List A) (k : ℕ) (d : A) → k < length xs → slice_get xs k ≡ Some (slice_index_or xs k d)
get-there [] k d h = absurd (omega arith)
get-there (x ∷ xs) zero d h = refl
get-there (x ∷ xs) (suc k) d h = get-there xs k d (omega arith)

pub get-is : {A : Type 0} (xs : List A) (k : ℕ) (x d : A) → slice_get xs k ≡ Some x → slice_index_or xs k d ≡ x
get-is [] k x d e = cc
get-is (y ∷ xs) zero x d e = cc
get-is (y ∷ xs) (suc k) x d e = get-is xs k x d e

pub listed : {A : Type 0} (P : A → Type 0) (xs : List A) (k : ℕ) (d : A) → AllByRecursion P xs → k < length xs → P (slice_index_or xs k d)
listed P [] k d all h = absurd (omega arith)
listed P (x ∷ xs) zero d all h = all.0
listed P (x ∷ xs) (suc k) d all h = listed P xs k d all.1 (omega arith)

pub stands-found : (x : ℕ) (ys : List ℕ) → list_any (nat_eq x) ys ≡ false → count_of x ys ≡ 0
stands-found x [] h = refl
stands-found x (y ∷ ys) h = elim (cases_Bool (nat_eq x y)) [
  | inl t ↦ absurd (true≢false (sym (ap (λ b. b || list_any (nat_eq x) ys) t) ∙ h))
  | inr f ↦
      let rest = stands-found x ys (sym (ap (λ b. b || list_any (nat_eq x) ys) f) ∙ h) in
      let none : one_if (x == y) ≡ 0 = ap one_if f in omega arith
]

-- ---- units with values

pub valued-some : (o : Option SsaUnit) → is_some (o >>= unit_bits) ≡ true → Valued o
valued-some None h = cc
valued-some (Some (Load a w)) h = tt
valued-some (Some (Store a w x)) h = cc
valued-some (Some (Operation op w k xs)) h = tt

pub some-valued : (o : Option SsaUnit) → Valued o → is_some (o >>= unit_bits) ≡ true
some-valued None h = absurd h
some-valued (Some (Load a w)) h = refl
some-valued (Some (Store a w x)) h = absurd h
some-valued (Some (Operation op w k xs)) h = refl

pub valued-unit : (o : Option SsaUnit) → Valued o → (u : SsaUnit) × (o ≡ Some u)
valued-unit None h = absurd h
valued-unit (Some u) h = (u, refl)

pub valued-is : (o : Option SsaUnit) → Valued o → is_some o ≡ true
valued-is None h = absurd h
valued-is (Some u) h = refl

-- the number of a unit
pub unit-number : (ssa : Ssa) (v : ℕ) (u : SsaUnit) → unit_at ssa v ≡ Some u → (arguments ssa ≤ v) × (v < arguments ssa + length ssa.units)
unit-number ssa v u e = elim (cases_lt v (arguments ssa)) [
  | inl below ↦ absurd (let none : None ≡ Some u = sym (cond-true _ _ _ (Rattle.std.proofs.lemmas.Bool.lt-ltb v (arguments ssa) below)) ∙ e in cc)
  | inr above ↦
      let there : slice_get ssa.units (v - arguments ssa) ≡ Some u = sym (cond-false _ _ _ (Rattle.std.proofs.lemmas.Bool.le-ltb v (arguments ssa) above)) ∙ e in
      (above, (let low = get-some ssa.units (v - arguments ssa) u there in omega arith))
]

-- ---- units of packs

pub units-same : (j : Job) (n : Node) → units_at j.packs n ≡ node_units j n
units-same j (PackAt k) = by j.packs k
  where
    by : (packs : List Pack) (k : ℕ) → option_map_or units_of (slice_get packs k) [] ≡ units_of (slice_index_or packs k (Stores []))
    by [] k = refl
    by (p ∷ packs) zero = refl
    by (p ∷ packs) (suc k) = by packs k
units-same j (UnitAt v) = refl

pub all-units-same : (j : Job) (ns : List Node) → all_units (units_at j.packs) ns ≡ all_units (node_units j) ns
all-units-same j [] = refl
all-units-same j (n ∷ ns) = λ i. units-same j n i ++ all-units-same j ns i

pub follows-same : (j : Job) (depends : Node → ℕ → Bool) (done order : List Node) → Follows depends (units_at j.packs) done order → Follows depends (node_units j) done order
follows-same j depends done [] h = tt
follows-same j depends done (n ∷ ns) h = (λ x d. subst (In x) (all-units-same j done) (h.0 x d), follows-same j depends (done ++ n ∷ []) ns h.1)

-- a unit of a pack is among those in packs
pub stands-packed : (packs : List Pack) (k x : ℕ) → In x (units_of (slice_index_or packs k (Stores []))) → In x (packed packs)
stands-packed [] k x h = absurd (omega arith)
stands-packed (p ∷ packs) zero x h = let split = count_of-append x (units_of p) (packed packs) in omega arith
stands-packed (p ∷ packs) (suc k) x h = let split = count_of-append x (units_of p) (packed packs) in let rest = stands-packed packs k x h in omega arith

-- it is in one pack alone
one-pack : (packs : List Pack) (k n x : ℕ) → count_of x (packed packs) ≤ 1 → In x (units_of (slice_index_or packs k (Stores []))) → In x (units_of (slice_index_or packs n (Stores []))) → k ≡ n
one-pack [] k n x once g h = absurd (omega arith)
one-pack (p ∷ packs) zero zero x once g h = refl
one-pack (p ∷ packs) zero (suc n) x once g h = absurd (let split = count_of-append x (units_of p) (packed packs) in let rest = stands-packed packs n x h in omega arith)
one-pack (p ∷ packs) (suc k) zero x once g h = absurd (let split = count_of-append x (units_of p) (packed packs) in let rest = stands-packed packs k x g in omega arith)
one-pack (p ∷ packs) (suc k) (suc n) x once g h = ap suc (one-pack packs k n x (let split = count_of-append x (units_of p) (packed packs) in omega arith) g h)

one-most : (b : Bool) → one_if b ≤ 1
one-most true = omega arith
one-most false = omega arith

at-most-once : (ssa : Ssa) (packs : List Pack) (x : ℕ) → ArePacks ssa packs → count_of x (packed packs) ≤ 1
at-most-once ssa packs x are = let a = are.once x in let b = one-most (is_unit ssa x) in omega arith

is-one : (b : Bool) → 0 < one_if b → b ≡ true
is-one true h = refl
is-one false h = absurd (omega arith)

pub packed-unit : (ssa : Ssa) (packs : List Pack) (k x : ℕ) → ArePacks ssa packs → In x (units_of (slice_index_or packs k (Stores []))) → is_unit ssa x ≡ true
packed-unit ssa packs k x are h = is-one (is_unit ssa x) (let a = are.once x in let b = stands-packed packs k x h in omega arith)

-- ---- nodes

-- a pack of the job, or a unit outside all packs
abbrev pub IsNode : Job → Node → Type 0
IsNode j (PackAt k) = k < length j.packs
IsNode j (UnitAt v) = is_packed j.packs v ≡ false

pack-nodes : (j : Job) (first n : ℕ) → first + n ≤ length j.packs → AllByRecursion (IsNode j) (map PackAt (numbers_from first n))
pack-nodes j first zero h = tt
pack-nodes j first (suc n) h = (omega arith, pack-nodes j (first + 1) n (omega arith))

not-not : (b : Bool) → not b ≡ true → b ≡ false
not-not true h = cc
not-not false h = refl

unit-nodes : (j : Job) (vs : List ℕ) → AllByRecursion (IsNode j) (map UnitAt (filter (λ v. not (is_packed j.packs v)) vs))
unit-nodes j [] = tt
unit-nodes j (v ∷ vs) =
    let Goal : List ℕ → Type 0 = λ l. AllByRecursion (IsNode j) (map UnitAt l) in
    let rest = unit-nodes j vs in
    let kept = filter (λ v. not (is_packed j.packs v)) vs in
    elim (cases_Bool (not (is_packed j.packs v))) [
      | inl t ↦ subst Goal (sym (cond-true _ (v ∷ kept) kept t)) (not-not (is_packed j.packs v) t, rest)
      | inr f ↦ subst Goal (sym (cond-false _ (v ∷ kept) kept f)) rest
    ]

all-joined : {A : Type 0} (P : A → Type 0) (xs ys : List A) → AllByRecursion P xs → AllByRecursion P ys → AllByRecursion P (xs ++ ys)
all-joined P [] ys a b = b
all-joined P (x ∷ xs) ys a b = (a.0, all-joined P xs ys a.1 b)

pub order-nodes : (j : Job) (matches : List Match) (order : List Node) → IsOrder j.ssa matches j.packs order → AllByRecursion (IsNode j) order
order-nodes j matches order is =
    let all : AllByRecursion (IsNode j) (nodes j.ssa j.packs) = all-joined (IsNode j) _ _ (pack-nodes j 0 (length j.packs) (omega arith)) (unit-nodes j (numbers_from (arguments j.ssa) (length j.ssa.units))) in
    recursion_from_All (IsNode j) order (All-permutation (IsNode j) (nodes j.ssa j.packs) order is.once (All-from_recursion (IsNode j) (nodes j.ssa j.packs) all))

pub only-in : (j : Job) (n : Node) → ArePacks j.ssa j.packs → IsNode j n → OnlyIn j n
only-in j (PackAt q) are is x k h g = ap PackAt (one-pack j.packs q k x (at-most-once j.ssa j.packs x are) h g)
only-in j (UnitAt v) are is x k h g = elim (cases_Bool (x == v)) [
  | inr f ↦ absurd (let none : one_if (x == v) ≡ 0 = ap one_if f in omega arith)
  | inl t ↦ absurd (let none = stands-found v (packed j.packs) is in let there = stands-packed j.packs k v (subst (λ y. In y (units_of (pack_at j k))) (eqb-true x v t) g) in omega arith)
]

pub each : {A : Type 0} (P Q : A → Type 0) (xs : List A) → ((x : A) → P x → Q x) → AllByRecursion P xs → AllByRecursion Q xs
each P Q [] f all = tt
each P Q (x ∷ xs) f all = (f x all.0, each P Q xs f all.1)

-- ---- packs by their kinds

pub kind-at : (j : Job) (k : ℕ) → AllByRecursion (IsPack j.descriptions j.ssa) j.packs → k < length j.packs → IsPack j.descriptions j.ssa (pack_at j k)
kind-at j k all h = listed (IsPack j.descriptions j.ssa) j.packs k (Stores []) all h

pub calls-at : (j : Job) (k : ℕ) → ArePacks j.ssa j.packs → k < length j.packs → CallsOperations j.ssa (pack_at j k)
calls-at j k are h = listed (CallsOperations j.ssa) j.packs k (Stores []) are.calls h

pub pack-sides : (ds : List Description) (ssa : Ssa) (p : Pack) → IsPack ds ssa p → CallsOperations ssa p → PackSides ssa p
pack-sides ds ssa (Loads us) is calls = (is.0, is.1, is.2, is.4)
pack-sides ds ssa (Stores us) is calls = (is.0, is.1, is.2, is.4, is.7)
pack-sides ds ssa (Call e lanes) is calls = calls

loads-valued : (ssa : Ssa) (w : Width) (a : Address) (us : List ℕ) (x : ℕ) → AreLoads ssa w a us → In x us → Valued (unit_at ssa x)
loads-valued ssa w a [] x are h = absurd (omega arith)
loads-valued ssa w a (u ∷ us) x are h = elim (cases_Bool (x == u)) [
  | inl t ↦ subst Valued (sym (ap (unit_at ssa) (eqb-true x u t) ∙ are.0)) tt
  | inr f ↦ loads-valued ssa w (Rattle.vg_shapes.specs.Pack.behind a (size_of w)) us x are.1 (let none : one_if (x == u) ≡ 0 = ap one_if f in omega arith)
]

stores-not-valued : (ssa : Ssa) (w : Width) (a : Address) (us : List ℕ) (ys : List Wanted) (x : ℕ) → AreStores ssa w a us ys → In x us → Valued (unit_at ssa x) → ⊥
stores-not-valued ssa w a [] ys x are h valued = omega arith
stores-not-valued ssa w a (u ∷ us) [] x are h valued = are
stores-not-valued ssa w a (u ∷ us) (y ∷ ys) x are h valued = elim (cases_Bool (x == u)) [
  | inl t ↦ subst Valued (ap (unit_at ssa) (eqb-true x u t) ∙ are.0) valued
  | inr f ↦ stores-not-valued ssa w (Rattle.vg_shapes.specs.Pack.behind a (size_of w)) us ys x are.1 (let none : one_if (x == u) ≡ 0 = ap one_if f in omega arith) valued
]

-- a unit without an access is an operation
operation-valued : (o : Option SsaUnit) → is_some o ≡ true → (o >>= access_of) ≡ None → Valued o
operation-valued None some none = cc
operation-valued (Some (Load a w)) some none = cc
operation-valued (Some (Store a w x)) some none = cc
operation-valued (Some (Operation op w k xs)) some none = tt

all-stand : (P : ℕ → Type 0) (xs : List ℕ) (x : ℕ) → AllByRecursion P xs → In x xs → P x
all-stand P [] x all h = absurd (omega arith)
all-stand P (y ∷ xs) x all h = elim (cases_Bool (x == y)) [
  | inl t ↦ subst P (sym (eqb-true x y t)) all.0
  | inr f ↦ all-stand P xs x all.1 (let none : one_if (x == y) ≡ 0 = ap one_if f in omega arith)
]

past-packs : (packs : List Pack) (k : ℕ) → length packs ≤ k → slice_index_or packs k (Stores []) ≡ Stores []
past-packs [] k h = refl
past-packs (p ∷ packs) zero h = absurd (omega arith)
past-packs (p ∷ packs) (suc k) h = past-packs packs k (omega arith)

-- what packs give are values
pub given-valued : (j : Job) (k x : ℕ) → ArePacks j.ssa j.packs → AllByRecursion (IsPack j.descriptions j.ssa) j.packs → In x (values_of (pack_at j k)) → Valued (unit_at j.ssa x)
given-valued j k x are kinds h = elim (cases_lt k (length j.packs)) [
  | inl low ↦ by (pack_at j k) (kind-at j k kinds low) (calls-at j k are low) (packed-unit j.ssa j.packs k x are) h
  | inr past ↦ absurd (let none = ap (λ p. count_of x (values_of p)) (past-packs j.packs k past) in omega arith)
]
  where
    by : (p : Pack) → IsPack j.descriptions j.ssa p → CallsOperations j.ssa p → (In x (units_of p) → is_unit j.ssa x ≡ true) → In x (values_of p) → Valued (unit_at j.ssa x)
    by (Stores us) is calls unit g = absurd (omega arith)
    by (Loads us) is calls unit g = loads-valued j.ssa is.0 is.1 us x is.2 (subst (In x) (values-loads us) g)
    by (Call e lanes) is calls unit g = operation-valued (unit_at j.ssa x) (unit g) (all-stand (λ v. access_at j.ssa v ≡ None) (units_of (Call e lanes)) x calls g)

-- a unit of a pack that has a value is one that the pack gives
pub units-given : (j : Job) (k x : ℕ) → AllByRecursion (IsPack j.descriptions j.ssa) j.packs → Valued (unit_at j.ssa x) → In x (units_of (pack_at j k)) → In x (values_of (pack_at j k))
units-given j k x kinds valued h = elim (cases_lt k (length j.packs)) [
  | inl low ↦ by (pack_at j k) (kind-at j k kinds low) h
  | inr past ↦ absurd (let none = ap (λ p. count_of x (units_of p)) (past-packs j.packs k past) in omega arith)
]
  where
    by : (p : Pack) → IsPack j.descriptions j.ssa p → In x (units_of p) → In x (values_of p)
    by (Stores us) is g = absurd (stores-not-valued j.ssa is.0 is.1 us is.2 x is.4 g valued)
    by (Loads us) is g = subst (In x) (sym (values-loads us)) g
    by (Call e lanes) is g = g

pub holder-low : (j : Job) (k : ℕ) → IsHolder (pack_at j k) → k < length j.packs
holder-low j k h = elim (cases_lt k (length j.packs)) [
  | inl low ↦ low
  | inr past ↦ absurd (subst IsHolder (past-packs j.packs k past) h)
]
