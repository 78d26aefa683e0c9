-- Where matches are those of units, packs that are tried have units alone, and there are no more
-- units than the kernel has.
use Rattle.std.proofs.Common.{◌≡◌, ℕ, zero, suc, ◌+◌, ◌-◌, ◌*◌, ◌/◌, ◌<◌, ◌≤◌, true, false, List, [], ◌∷◌, map, length, refl, sym, ap, subst, inl, inr, arith}
use Rattle.std.specs.Prelude.{◌&&◌, filter, nat_eq, nat_le, nat_lt, Option, Some, None, is_some, slice_get}
use Rattle.std.specs.List.{filter_map, list_all}
use Rattle.std.proofs.lemmas.Bool.{cases_Bool}
use Rattle.std.proofs.lemmas.Bool.Decides.{nat_tests}
use Rattle.std.specs.Cmp.Lexicographic.{pointwise}
use Rattle.vg_base.specs.declared.address.Address.{Address}
use Rattle.vg_base.specs.declared.width.Width.{Width}
use Rattle.vg_base.specs.Width.{size_of}
use Rattle.vg_plans.specs.Members.{Has}
use Rattle.vg_plans.specs.World.{tried}
use Rattle.vg_plans.proofs.Members.{from-filter, from-flat_map, has-append, has-filter}
use Rattle.vg_shapes.specs.declared.match_table.Match.{Match}
use Rattle.vg_shapes.specs.declared.operand.Operand.{Operand}
use Rattle.vg_shapes.specs.declared.pack.Pack.{Pack}
use Rattle.vg_shapes.specs.declared.pack.Pack.TheVariants.{Stores, Loads, Call}
use Rattle.vg_shapes.specs.declared.ssa.Ssa.{Ssa}
use Rattle.vg_shapes.specs.declared.ssa_unit.SsaUnit.{SsaUnit}
use Rattle.vg_shapes.specs.declared.ssa_unit.SsaUnit.TheVariants.{Load, Store, Operation}
use Rattle.vg_shapes.specs.Depends.{numbers_below}
use Rattle.vg_shapes.specs.Description.{Description}
use Rattle.vg_shapes.specs.Pack.{AreLoads, behind, is_pack_size, match_at, stores_before, stores_to, units_of}
use Rattle.vg_shapes.specs.Units.{arguments, is_unit, unit_at}
use Rattle.vg_kernel_plans.specs.declared.choice.Choice.{Choice}
use Rattle.vg_kernel_plans.specs.Fed.{packing_by, unfed}
use Rattle.vg_kernel_plans.specs.LoadGroups.{feeders}
use Rattle.vg_kernel_plans.specs.Groups.{group_of, groups_of, store_groups, stores_at, stores_from, unit_numbers}
use Rattle.vg_kernel_plans.specs.Held.{lanes_from}
use Rattle.vg_kernel_plans.specs.Laws.{MatchUnits}
use Rattle.vg_kernel_plans.specs.Packing.{falling_units, packing}
use Rattle.vg_kernel_plans.specs.Producers.{are_beside, are_loads, are_matched, begin_loads, call_producer, call_producers, can_be_produced, lanes_for, load_producer, loads_from}
use Rattle.vg_kernel_plans.specs.SameAs.{same_slot}
use Rattle.vg_kernel_plans.specs.Taken.{first_width, register_for}
use Rattle.vg_kernel_plans.specs.Wants.{wanted_slots, wanted_values}
use Rattle.vg_kernel_plans.proofs.SameTests.{both-true}
use Rattle.vg_kernel_plans.proofs.Tried.{IsTried, feeder-group, feeds, group, if-has, is-tried, produces}

-- the members of a list are units
abbrev Inside : Ssa → List ℕ → Type 0
Inside ssa vs = (v : ℕ) → Has v vs → is_unit ssa v ≡ true

inside-some : (ssa : Ssa) (found : List (Option ℕ))
    → ((v : ℕ) → Has (Some v) found → is_unit ssa v ≡ true) → Inside ssa (filter_map (λ u. u) found)
inside-some ssa [] i v h = absurd h
inside-some ssa (None ∷ found) i v h = inside-some ssa found (λ u k. i u (inr k)) v h
inside-some ssa (Some u ∷ found) i v h = elim h [
  | inl e ↦ i v (inl (ap Some e))
  | inr k ↦ inside-some ssa found (λ u k. i u (inr k)) v k
]

is-some-of : {X : Type 0} (o : Option X) (x : X) → o ≡ Some x → is_some o ≡ true
is-some-of o x e = rw e refl

-- a store is a unit
stores-unit : (a : Address) (w : Width) (u : Option SsaUnit) → stores_to a w u ≡ true → is_some u ≡ true
stores-unit a w None t = absurd (cc)
stores-unit a w (Some u) t = refl

get-has : {X : Type 0} (x : X) (xs : List X) (k : ℕ) → slice_get xs k ≡ Some x → Has x xs
get-has x [] zero e = absurd (cc)
get-has x [] (suc k) e = absurd (cc)
get-has x (y ∷ ys) zero e = inl (cc)
get-has x (y ∷ ys) (suc k) e = inr (get-has x ys k e)

from-inside : (ssa : Ssa) (a : Address) (w : Width) (rank n : ℕ) (v : ℕ)
    → Has (Some v) (stores_from ssa a w rank n) → is_unit ssa v ≡ true
from-inside ssa a w rank zero v h = absurd h
from-inside ssa a w rank (suc n) v h = elim h [
  | inl e ↦
      let k = get-has v (stores_at ssa a w) rank e in
      let f = from-filter (λ v. stores_to a w (unit_at ssa v)) v (unit_numbers ssa) k in
      stores-unit a w (unit_at ssa v) f.1
  | inr k ↦ from-inside ssa (behind a (size_of w)) w rank n v k
]

group-inside : (ssa : Ssa) (size v : ℕ) (p : Pack) (u : Option SsaUnit)
    → Has p (group_of ssa size v u) → Inside ssa (units_of p)
group-inside ssa size v p None k = absurd k
group-inside ssa size v p (Some (Load a w)) k = absurd k
group-inside ssa size v p (Some (Operation op w n xs)) k = absurd k
group-inside ssa size v p (Some (Store a w x)) k =
    let found = stores_from ssa a w (stores_before ssa a w v) (size / size_of w) in
    let h = if-has (nat_le 2 (length found) && list_all is_some found) (Stores (filter_map (λ u. u) found)) p k in
    subst (λ p. Inside ssa (units_of p)) h.1
    (inside-some ssa found (from-inside ssa a w (stores_before ssa a w v) (size / size_of w)))

loads-unit : (a : Address) (w : Width) (u : Option SsaUnit) → loads_from a w u ≡ true → is_some u ≡ true
loads-unit a w None t = absurd (cc)
loads-unit a w (Some u) t = refl

loads-inside : (ssa : Ssa) (a : Address) (w : Width) (us : List ℕ) → are_loads ssa a w us ≡ true → Inside ssa us
loads-inside ssa a w [] t v h = absurd h
loads-inside ssa a w (u ∷ us) t v h =
    let b = both-true (loads_from a w (unit_at ssa u)) (are_loads ssa (behind a (size_of w)) w us) t in
    elim h [
      | inl e ↦ subst (λ x. is_unit ssa x ≡ true) e (loads-unit a w (unit_at ssa u) b.0)
      | inr k ↦ loads-inside ssa (behind a (size_of w)) w us b.1 v k
    ]

begun-inside : (ssa : Ssa) (u : Option SsaUnit) (us : List ℕ) → begin_loads ssa u us ≡ true → Inside ssa us
begun-inside ssa None us t = absurd (cc)
begun-inside ssa (Some (Store a w x)) us t = absurd (cc)
begun-inside ssa (Some (Operation op w k xs)) us t = absurd (cc)
begun-inside ssa (Some (Load a w)) us t = loads-inside ssa a w us t

beside-inside : (ssa : Ssa) (us : List ℕ) → are_beside ssa us ≡ true → Inside ssa us
beside-inside ssa [] t = absurd (cc)
beside-inside ssa (v ∷ vs) t = begun-inside ssa (unit_at ssa v) (v ∷ vs) t

load-inside : (ssa : Ssa) (o : Operand) (p : Pack) → Has p (load_producer ssa o) → Inside ssa (units_of p)
load-inside ssa o p l =
    let us = wanted_values o in
    let width = first_width ssa us in
    let a = if-has _ (Loads us) p l in
    let b = both-true (can_be_produced o) _ a.0 in
    let b2 = both-true (is_pack_size (length us * width / 8)) _ b.1 in
    let b3 = both-true (nat_eq (register_for us width) o.register) _ b2.1 in
    let b4 = both-true (pointwise same_slot (wanted_slots o) (lanes_from 0 width (map Some us))) (are_beside ssa us) b3.1 in
    subst (λ p. Inside ssa (units_of p)) a.1 (beside-inside ssa us b4.1)

-- a match that is found is that of a value
found-unit : (ssa : Ssa) (matches : List Match) (d lane v : ℕ) → MatchUnits ssa matches
    → is_some (match_at matches d lane v) ≡ true → is_unit ssa v ≡ true
found-unit ssa [] d lane v m t = absurd (cc)
found-unit ssa (x ∷ xs) d lane v m t =
    elim (cases_Bool (nat_eq x.description d && (nat_eq x.lane lane && nat_eq x.value v))) [
      | inl e ↦
          let b = both-true (nat_eq x.description d) (nat_eq x.lane lane && nat_eq x.value v) e in
          let b2 = both-true (nat_eq x.lane lane) (nat_eq x.value v) b.1 in
          let same : x.value ≡ v = grind (arith, nat_tests, b2.1) in
          subst (λ y. is_unit ssa y ≡ true) same m.0
      | inr f ↦ found-unit ssa xs d lane v m.1 (rw f at t)
    ]

matched-inside : (ssa : Ssa) (matches : List Match) (d lane : ℕ) (lanes : List (Option ℕ))
    → MatchUnits ssa matches → are_matched matches d lane lanes ≡ true
    → (v : ℕ) → Has (Some v) lanes → is_unit ssa v ≡ true
matched-inside ssa matches d lane [] m t v h = absurd h
matched-inside ssa matches d lane (None ∷ lanes) m t v h = elim h [
  | inl e ↦ absurd (cc)
  | inr k ↦ matched-inside ssa matches d (suc lane) lanes m t v k
]
matched-inside ssa matches d lane (Some u ∷ lanes) m t v h =
    let b = both-true (is_some (match_at matches d lane u)) (are_matched matches d (suc lane) lanes) t in
    elim h [
      | inl e ↦
          let same : u ≡ v = cc in
          subst (λ x. is_unit ssa x ≡ true) same (found-unit ssa matches d lane u m b.0)
      | inr k ↦ matched-inside ssa matches d (suc lane) lanes m b.1 v k
    ]

call-inside : (ds : List Description) (matches : List Match) (ssa : Ssa) (m : MatchUnits ssa matches)
    (o : Operand) (p : Pack) (d : ℕ) (es : List Description)
    → Has p (call_producers ds matches ssa o d es) → Inside ssa (units_of p)
call-inside ds matches ssa m o p d [] k = absurd k
call-inside ds matches ssa m o p d (e ∷ es) k =
    elim (has-append p (call_producer ds matches ssa o d e) (call_producers ds matches ssa o (suc d) es) k) [
      | inl l ↦
          let lanes = lanes_for (e.register / e.lane_width) 0 e.lane_width o.slots in
          let a = if-has _ (Call d lanes) p l in
          let b = both-true (can_be_produced o) _ a.0 in
          let b2 = both-true _ _ b.1 in
          let b3 = both-true _ _ b2.1 in
          let b4 = both-true (are_matched matches d 0 lanes) _ b3.1 in
          subst (λ p. Inside ssa (units_of p)) a.1
          (inside-some ssa lanes (matched-inside ssa matches d 0 lanes m b4.0))
      | inr r ↦ call-inside ds matches ssa m o p (suc d) es r
    ]

groups-inside : (ssa : Ssa) (p : Pack) → Has p (store_groups ssa) → Inside ssa (units_of p)
groups-inside ssa p l =
    let size = from-flat_map (groups_of ssa) p (64 ∷ 32 ∷ 16 ∷ 8 ∷ 4 ∷ []) l in
    let first = from-flat_map (λ v. group_of ssa size.0 v (unit_at ssa v)) p (unit_numbers ssa) size.2 in
    group-inside ssa size.0 first.0 p (unit_at ssa first.0) first.2

-- loads beside each other are units
pub are-inside : (ssa : Ssa) (w : Width) (a : Address) (us : List ℕ) → AreLoads ssa w a us → Inside ssa us
are-inside ssa w a [] h v k = absurd k
are-inside ssa w a (u ∷ us) h v k = elim k [
  | inl e ↦ subst (λ x. is_unit ssa x ≡ true) e (is-some-of (unit_at ssa u) (Load a w) h.0)
  | inr r ↦ are-inside ssa w (behind a (size_of w)) us h.1 v r
]

fed-inside : (ssa : Ssa) (o : Operand) (p : Pack) → Has p (feeders ssa o) → Inside ssa (units_of p)
fed-inside ssa o p h =
    let g = feeder-group ssa o p h in
    subst (λ q. Inside ssa (units_of q)) (sym g.pack) (are-inside ssa g.loads.0 g.loads.1 g.units g.loads.2)

any-inside : (ds : List Description) (matches : List Match) (ssa : Ssa) → MatchUnits ssa matches
    → (plan : List Pack) (p : Pack) → IsTried ds matches ssa plan p → Inside ssa (units_of p)
any-inside ds matches ssa m plan p (group h) = groups-inside ssa p h
any-inside ds matches ssa m plan p (feeds q o a b h) = fed-inside ssa o p h
any-inside ds matches ssa m plan p (produces q o a b h) =
    elim (has-append p (load_producer ssa o) (call_producers ds matches ssa o 0 ds) h) [
      | inl l ↦ load-inside ssa o p l
      | inr s ↦ call-inside ds matches ssa m o p 0 ds s
    ]

pub tried-inside_by : (c : Choice) (ds : List Description) (matches : List Match) (ssa : Ssa) (deps : List (ℕ × ℕ))
    → MatchUnits ssa matches → (plan : List Pack) (p : Pack)
    → Has p (tried (packing_by c ds matches ssa deps) plan) → Inside ssa (units_of p)
tried-inside_by c ds matches ssa deps m plan p h =
    any-inside ds matches ssa m plan p (is-tried c ds matches ssa deps plan p h)

pub tried-inside : (ds : List Description) (matches : List Match) (ssa : Ssa) (deps : List (ℕ × ℕ))
    → MatchUnits ssa matches → (plan : List Pack) (p : Pack)
    → Has p (tried (packing ds matches ssa deps) plan) → Inside ssa (units_of p)
tried-inside ds matches ssa deps m plan p h = tried-inside_by unfed ds matches ssa deps m plan p h

-- ---- how many units there are

get-short : {X : Type 0} (xs : List X) (k : ℕ) → is_some (slice_get xs k) ≡ true → k < length xs
get-short [] zero t = absurd (cc)
get-short [] (suc k) t = absurd (cc)
get-short (x ∷ xs) zero t = omega arith
get-short (x ∷ xs) (suc k) t = let h = get-short xs k t in omega (arith, h)

pub unit-number : (ssa : Ssa) (v : ℕ) → is_unit ssa v ≡ true
    → (arguments ssa ≤ v) × (v < arguments ssa + length ssa.units)
unit-number ssa v t = elim (cases_Bool (nat_lt v (arguments ssa))) [
  | inl e ↦ absurd (let f : is_unit ssa v ≡ false = rw e refl in cc)
  | inr f ↦
      let g : is_some (slice_get ssa.units (v - arguments ssa)) ≡ true = rw f at t in
      let h = get-short ssa.units (v - arguments ssa) g in
      let le : arguments ssa ≤ v = grind (arith, nat_tests, f) in
      (le, omega (arith, h, le))
]

below-has : (v n : ℕ) → v < n → Has v (numbers_below n)
below-has v zero l = absurd (omega (arith, l))
below-has v (suc n) l = elim (cases_Bool (nat_eq n v)) [
  | inl e ↦ inl (grind (arith, nat_tests, e))
  | inr f ↦ inr (below-has v n (grind (arith, nat_tests, f, l)))
]

pub units-listed : (ssa : Ssa) (v : ℕ) → is_unit ssa v ≡ true → Has v (falling_units ssa)
units-listed ssa v t =
    has-filter (is_unit ssa) v (numbers_below (arguments ssa + length ssa.units))
    (below-has v (arguments ssa + length ssa.units) (unit-number ssa v t).1) t

-- of the numbers below one, those that are units are at most those from the first unit on
few-below : (ssa : Ssa) (n : ℕ) → length (filter (is_unit ssa) (numbers_below n)) + arguments ssa ≤ arguments ssa + n
few-below ssa zero = omega arith
few-below ssa (suc n) = elim (cases_Bool (is_unit ssa n)) [
  | inl t ↦ rw t (let h = few-below ssa n in omega (arith, h))
  | inr f ↦ rw f (let h = few-below ssa n in omega (arith, h))
]

none-below : (ssa : Ssa) (n : ℕ) → n ≤ arguments ssa → length (filter (is_unit ssa) (numbers_below n)) ≡ 0
none-below ssa zero l = refl
none-below ssa (suc n) l = elim (cases_Bool (is_unit ssa n)) [
  | inl t ↦ absurd (let h = unit-number ssa n t in omega (arith, h.0, l))
  | inr f ↦ rw f (none-below ssa n (omega (arith, l)))
]

counted : (ssa : Ssa) (n : ℕ) → length (filter (is_unit ssa) (numbers_below (arguments ssa + n))) ≤ n
counted ssa zero =
    let e : arguments ssa + 0 ≡ arguments ssa = omega arith in
    rw e (let h = none-below ssa (arguments ssa) (omega arith) in omega (arith, h))
counted ssa (suc n) =
    let e : arguments ssa + suc n ≡ suc (arguments ssa + n) = omega arith in
    rw e (elim (cases_Bool (is_unit ssa (arguments ssa + n))) [
      | inl t ↦ rw t (let h = counted ssa n in omega (arith, h))
      | inr f ↦ rw f (let h = counted ssa n in omega (arith, h))
    ])

pub units-counted : (ssa : Ssa) → length (falling_units ssa) ≤ length ssa.units
units-counted ssa = counted ssa (length ssa.units)
