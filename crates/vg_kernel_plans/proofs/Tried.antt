-- Each pack that is tried has a unit, and where matches are those of units, it has units alone.
use Rattle.std.proofs.Common.{◌≡◌, ℕ, suc, ◌+◌, ◌/◌, ◌≤◌, ◌⊎◌, Bool, true, false, List, [], ◌∷◌, ◌++◌, length, refl, sym, ap, subst, inl, inr, arith}
use Rattle.std.specs.Prelude.{◌&&◌, if◌then◌else◌, filter, nat_eq, nat_le, Option, Some, None, is_some, cond, option_to_list}
use Rattle.std.specs.List.{filter_map, flat_map, list_all}
use Rattle.std.proofs.lemmas.Bool.Decides.{nat_tests}
use Rattle.std.specs.Cmp.Lexicographic.{pointwise}
use Rattle.vg_base.specs.Width.{size_of}
use Rattle.vg_plans.specs.Members.{Has}
use Rattle.vg_plans.specs.World.{IsWorld, is_in, tried, tried_for}
use Rattle.vg_plans.proofs.Lists.{has-append_left, has-append_right, has-flat_map}
use Rattle.vg_plans.proofs.Members.{has-append, from-filter, from-flat_map}
use Rattle.vg_shapes.specs.declared.match_table.Match.{Match}
use Rattle.vg_shapes.specs.declared.operand.Operand.{Operand}
use Rattle.vg_shapes.specs.declared.operand.Slot.{Slot}
use Rattle.vg_shapes.specs.declared.pack.Pack.{Pack}
use Rattle.vg_shapes.specs.declared.pack.Pack.TheVariants.{Stores, Loads, Call}
use Rattle.vg_shapes.specs.declared.ssa.Ssa.{Ssa}
use Rattle.vg_shapes.specs.declared.ssa_unit.SsaUnit.{SsaUnit}
use Rattle.vg_shapes.specs.declared.ssa_unit.SsaUnit.TheVariants.{Load, Store, Operation}
use Rattle.vg_shapes.specs.declared.wanted.Wanted.{Wanted}
use Rattle.vg_shapes.specs.declared.wanted.Wanted.TheVariants.{Value, Constant, Nothing}
use Rattle.vg_shapes.specs.Description.{Description}
use Rattle.vg_shapes.specs.Pack.{stores_before, units_of}
use Rattle.vg_shapes.specs.Units.{unit_at}
use Rattle.vg_kernel_plans.specs.declared.choice.Choice.{Choice}
use Rattle.vg_kernel_plans.specs.Fed.{feeders_by, groups_by, packing_by, unfed}
use Rattle.vg_kernel_plans.specs.LoadGroups.{feeders, load_groups, feeds as has_fed}
use Rattle.vg_kernel_plans.specs.Groups.{aligned_groups, is_aligned, group_of, groups_of, store_groups, stores_from, unit_numbers}
use Rattle.vg_kernel_plans.specs.Held.{lanes_from}
use Rattle.vg_kernel_plans.specs.Packing.{packing}
use Rattle.vg_kernel_plans.specs.Producers.{all_differ, call_producer, call_producers, can_be_produced, lanes_for, load_producer, producers}
use Rattle.vg_kernel_plans.specs.SameAs.{same_slot}
use Rattle.vg_kernel_plans.specs.Taken.{operands_of}
use Rattle.vg_kernel_plans.specs.Wants.{is_wanted, value_of, wanted_slots, wanted_values, wants_value}
use Rattle.vg_kernel_plans.proofs.LoadPacks.{IsLoadGroup, load-group}
use Rattle.vg_kernel_plans.proofs.SameTests.{both-true, eq-itself, list-is, operand-is, operand-itself, pack-is, pack-itself, slot-is}

-- a list has a member
abbrev Somewhere : List ℕ → Type 0
Somewhere vs = (v : ℕ) × (is_in v vs ≡ true)

abbrev HasUnit : Pack → Type 0
HasUnit p = Somewhere (units_of p)

pub if-has : (b : Bool) (q p : Pack) → Has p (if b then q ∷ [] else []) → (b ≡ true) × (q ≡ p)
if-has true q p h = elim h [ inl e ↦ (refl, e) | inr n ↦ absurd n ]
if-has false q p h = absurd h

here : (v : ℕ) (vs : List ℕ) → is_in v (v ∷ vs) ≡ true
here v vs = rw (eq-itself v) refl

some-first : (found : List (Option ℕ)) → 1 ≤ length found → list_all is_some found ≡ true
    → Somewhere (filter_map (λ u. u) found)
some-first [] le t = absurd (omega arith)
some-first (Some u ∷ found) le t = (u, here u (filter_map (λ u. u) found))
some-first (None ∷ found) le t = absurd (cc)

-- a first slot that wants a value
by_wanted : (s : Slot) (slots : List Slot)
    → (1 ≤ length (filter (λ s. is_wanted s.wanted) slots)
    → list_all (λ s. wants_value s.wanted) (filter (λ s. is_wanted s.wanted) slots) ≡ true
    → Somewhere (filter_map (λ s. value_of s.wanted) slots))
    → (x : Wanted) → s.wanted ≡ x
    → 1 ≤ length (cond (is_wanted x) (s ∷ filter (λ s. is_wanted s.wanted) slots) (filter (λ s. is_wanted s.wanted) slots))
    → list_all (λ s. wants_value s.wanted) (cond (is_wanted x) (s ∷ filter (λ s. is_wanted s.wanted) slots) (filter (λ s. is_wanted s.wanted) slots)) ≡ true
    → Somewhere (option_to_list (value_of x) ++ filter_map (λ s. value_of s.wanted) slots)
by_wanted s slots rest (Value v) e l u = (v, here v (filter_map (λ s. value_of s.wanted) slots))
by_wanted s slots rest (Constant w n) e l u =
    absurd (
    let k = (both-true (wants_value s.wanted) (list_all (λ s. wants_value s.wanted) (filter (λ s. is_wanted s.wanted) slots)) u).0 in
    let f : wants_value s.wanted ≡ false = rw e refl in
    cc)
by_wanted s slots rest Nothing e l u = rest l u

map-first : {X Y : Type 0} (f : X → Option Y) (x : X) (xs : List X)
    → filter_map f (x ∷ xs) ≡ option_to_list (f x) ++ filter_map f xs
map-first {Y = Y} f x xs = of (f x) refl
  where
    of : (o : Option Y) → f x ≡ o → filter_map f (x ∷ xs) ≡ option_to_list (f x) ++ filter_map f xs
    of None e = rw e refl
    of (Some y) e = rw e refl

values-some : (slots : List Slot) → 1 ≤ length (filter (λ s. is_wanted s.wanted) slots)
    → list_all (λ s. wants_value s.wanted) (filter (λ s. is_wanted s.wanted) slots) ≡ true
    → Somewhere (filter_map (λ s. value_of s.wanted) slots)
values-some [] le t = absurd (omega arith)
values-some (s ∷ slots) le t =
    subst Somewhere (sym (map-first (λ s. value_of s.wanted) s slots))
    (by_wanted s slots (λ l u. values-some slots l u) s.wanted refl le t)

lanes-some : (low w : ℕ) (lanes : List (Option ℕ)) → 1 ≤ length (lanes_from low w lanes)
    → Somewhere (filter_map (λ u. u) lanes)
lanes-some low w [] le = absurd (omega arith)
lanes-some low w (None ∷ lanes) le = lanes-some (low + w) w lanes le
lanes-some low w (Some v ∷ lanes) le = (v, here v (filter_map (λ u. u) lanes))

group-has : (ssa : Ssa) (size v : ℕ) (p : Pack) (u : Option SsaUnit)
    → Has p (group_of ssa size v u) → HasUnit p
group-has ssa size v p None k = absurd k
group-has ssa size v p (Some (Load a w)) k = absurd k
group-has ssa size v p (Some (Operation op w n xs)) k = absurd k
group-has ssa size v p (Some (Store a w x)) k =
    let found = stores_from ssa a w (stores_before ssa a w v) (size / size_of w) in
    let h = if-has (nat_le 2 (length found) && list_all is_some found) (Stores (filter_map (λ u. u) found)) p k in
    let b = both-true (nat_le 2 (length found)) (list_all is_some found) h.0 in
    let long : 1 ≤ length found = grind (arith, nat_tests, b.0) in
    subst HasUnit h.1 (some-first found long b.1)

produced-value : (o : Operand) → can_be_produced o ≡ true → Somewhere (wanted_values o)
produced-value o t =
    let b = both-true (nat_le 2 (length (wanted_slots o))) _ t in
    let d = both-true (list_all (λ s. wants_value s.wanted) (wanted_slots o)) (all_differ (wanted_values o)) b.1 in
    values-some o.slots (grind (arith, nat_tests, b.0)) d.0

load-has : (ssa : Ssa) (o : Operand) (p : Pack) → Has p (load_producer ssa o) → HasUnit p
load-has ssa o p l =
    let a = if-has _ (Loads (wanted_values o)) p l in
    let b = both-true (can_be_produced o) _ a.0 in
    subst HasUnit a.1 (produced-value o b.0)

call-has : (ds : List Description) (matches : List Match) (ssa : Ssa) (o : Operand) (p : Pack)
    (d : ℕ) (es : List Description) → Has p (call_producers ds matches ssa o d es) → HasUnit p
call-has ds matches ssa o p d [] k = absurd k
call-has ds matches ssa o p d (e ∷ es) k =
    elim (has-append p (call_producer ds matches ssa o d e) (call_producers ds matches ssa o (suc d) es) k) [
      | inl l ↦
          let lanes = lanes_for (e.register / e.lane_width) 0 e.lane_width o.slots in
          let a = if-has _ (Call d lanes) p l in
          let b = both-true (can_be_produced o) _ a.0 in
          let b2 = both-true (nat_eq e.register o.register) _ b.1 in
          let b3 = both-true (pointwise same_slot (wanted_slots o) (lanes_from 0 e.lane_width lanes)) _ b2.1 in
          let same = list-is same_slot slot-is (wanted_slots o) (lanes_from 0 e.lane_width lanes) b3.0 in
          let n = both-true (nat_le 2 (length (wanted_slots o))) _ b.0 in
          let long : 1 ≤ length (lanes_from 0 e.lane_width lanes) =
          let l2 = ap length same in grind (arith, nat_tests, l2, n.0)
          in
          subst HasUnit a.1 (lanes-some 0 e.lane_width lanes long)
      | inr r ↦ call-has ds matches ssa o p (suc d) es r
    ]

produced-has : (ds : List Description) (matches : List Match) (ssa : Ssa) (o : Operand) (p : Pack)
    → Has p (producers ds matches ssa o) → HasUnit p
produced-has ds matches ssa o p h =
    elim (has-append p (load_producer ssa o) (call_producers ds matches ssa o 0 ds) h) [
      | inl l ↦ load-has ssa o p l
      | inr r ↦ call-has ds matches ssa o p 0 ds r
    ]

first-unit : (us : List ℕ) → 1 ≤ length us → Somewhere us
first-unit [] le = absurd (omega arith)
first-unit (u ∷ us) le = (u, here u us)

fed-has : (ssa : Ssa) (register : ℕ) (p : Pack) → Has p (load_groups ssa register) → HasUnit p
fed-has ssa register p h =
    let g = load-group ssa register p h in
    let two : 2 ≤ length g.units = g.loads.3 in
    subst HasUnit (sym g.pack) (first-unit g.units (omega (arith, two)))

groups-has : (ssa : Ssa) (p : Pack) → Has p (store_groups ssa) → HasUnit p
groups-has ssa p l =
    let size = from-flat_map (groups_of ssa) p (64 ∷ 32 ∷ 16 ∷ 8 ∷ 4 ∷ []) l in
    let first = from-flat_map (λ v. group_of ssa size.0 v (unit_at ssa v)) p (unit_numbers ssa) size.2 in
    group-has ssa size.0 first.0 p (unit_at ssa first.0) first.2

-- what is tried by a choice: a store group, a producer or a load group
pub tried-groups : (c : Choice) (ssa : Ssa) (p : Pack) → Has p (groups_by c ssa) → Has p (store_groups ssa)
tried-groups c ssa p h = of c.aligned h
  where
    of : (b : Bool) → Has p (if b then aligned_groups ssa else store_groups ssa) → Has p (store_groups ssa)
    of true h = (from-filter (is_aligned ssa) p (store_groups ssa) h).0
    of false h = h

pub tried-feeders : (c : Choice) (ssa : Ssa) (o : Operand) (p : Pack) → Has p (feeders_by c ssa o) → Has p (feeders ssa o)
tried-feeders c ssa o p h = of c.fed h
  where
    of : (b : Bool) → Has p (if b then feeders ssa o else []) → Has p (feeders ssa o)
    of true h = h
    of false h = absurd h

-- a pack that is tried is a store group, produces an operand of a pack of the plan, or feeds one
pub data IsTried (ds : List Description) (matches : List Match) (ssa : Ssa) (plan : List Pack) (p : Pack) : Type 0 where
  group : Has p (store_groups ssa) → IsTried ds matches ssa plan p
  produces : (q : Pack) (o : Operand) → Has q plan → Has o (operands_of ds matches ssa q)
      → Has p (producers ds matches ssa o) → IsTried ds matches ssa plan p
  feeds : (q : Pack) (o : Operand) → Has q plan → Has o (operands_of ds matches ssa q)
      → Has p (feeders ssa o) → IsTried ds matches ssa plan p

pub is-tried : (c : Choice) (ds : List Description) (matches : List Match) (ssa : Ssa) (deps : List (ℕ × ℕ)) (plan : List Pack) (p : Pack)
    → Has p (tried (packing_by c ds matches ssa deps) plan) → IsTried ds matches ssa plan p
is-tried c ds matches ssa deps plan p h =
    let of : Operand → List Pack = tried_for (packing_by c ds matches ssa deps) in
    elim (has-append p (groups_by c ssa) (flat_map (λ q. flat_map of (operands_of ds matches ssa q)) plan) h) [
      | inl l ↦ group (tried-groups c ssa p l)
      | inr r ↦
          let q = from-flat_map (λ q. flat_map of (operands_of ds matches ssa q)) p plan r in
          let o = from-flat_map of p (operands_of ds matches ssa q.0) q.2 in
          elim (has-append p (producers ds matches ssa o.0) (feeders_by c ssa o.0) o.2) [
            | inl m ↦ produces q.0 o.0 q.1 o.1 m
            | inr f ↦ feeds q.0 o.0 q.1 o.1 (tried-feeders c ssa o.0 p f)
          ]
    ]

-- where nothing feeds, a pack that is tried is a store group or produces an operand of a pack of the plan
abbrev pub IsProduced : List Description → List Match → Ssa → List Pack → Pack → Type 0
IsProduced ds matches ssa plan p =
    (q : Pack) × (o : Operand) × Has q plan × Has o (operands_of ds matches ssa q) × Has p (producers ds matches ssa o)

pub tried-unfed : (ds : List Description) (matches : List Match) (ssa : Ssa) (deps : List (ℕ × ℕ)) (plan : List Pack) (p : Pack)
    → Has p (tried (packing ds matches ssa deps) plan) → Has p (store_groups ssa) ⊎ IsProduced ds matches ssa plan p
tried-unfed ds matches ssa deps plan p h =
    let of : Operand → List Pack = tried_for (packing ds matches ssa deps) in
    elim (has-append p (store_groups ssa) (flat_map (λ q. flat_map of (operands_of ds matches ssa q)) plan) h) [
      | inl l ↦ inl l
      | inr r ↦
          let q = from-flat_map (λ q. flat_map of (operands_of ds matches ssa q)) p plan r in
          let o = from-flat_map of p (operands_of ds matches ssa q.0) q.2 in
          elim (has-append p (producers ds matches ssa o.0) [] o.2) [
            | inl m ↦ inr (q.0, o.0, q.1, o.1, m)
            | inr n ↦ absurd n
          ]
    ]

-- and each of these is tried
pub unfed-tried : (ds : List Description) (matches : List Match) (ssa : Ssa) (deps : List (ℕ × ℕ)) (plan : List Pack) (p : Pack)
    → IsProduced ds matches ssa plan p → Has p (tried (packing ds matches ssa deps) plan)
unfed-tried ds matches ssa deps plan p k =
    let of : Operand → List Pack = tried_for (packing ds matches ssa deps) in
    has-append_right p (store_groups ssa) _
    (has-flat_map (λ q. flat_map of (operands_of ds matches ssa q)) k.0 p plan k.2
    (has-flat_map of k.1 p (operands_of ds matches ssa k.0) k.3 (has-append_left p (producers ds matches ssa k.1) [] k.4)))

pub feeder-group : (ssa : Ssa) (o : Operand) (p : Pack) → Has p (feeders ssa o) → IsLoadGroup ssa p
feeder-group ssa o p h =
    load-group ssa o.register p (from-filter (has_fed o) p (load_groups ssa o.register) h).0

tried-has : (ds : List Description) (matches : List Match) (ssa : Ssa) (plan : List Pack) (p : Pack)
    → IsTried ds matches ssa plan p → HasUnit p
tried-has ds matches ssa plan p (group h) = groups-has ssa p h
tried-has ds matches ssa plan p (produces q o a b h) = produced-has ds matches ssa o p h
tried-has ds matches ssa plan p (feeds q o a b h) =
    fed-has ssa o.register p (from-filter (has_fed o) p (load_groups ssa o.register) h).0

pub is-packing_by : (c : Choice) (ds : List Description) (matches : List Match) (ssa : Ssa) (deps : List (ℕ × ℕ))
    → IsWorld (packing_by c ds matches ssa deps)
is-packing_by c ds matches ssa deps = record {
  pack_itself = pack-itself;
  pack_is = pack-is;
  operand_itself = operand-itself;
  operand_is = operand-is;
  has_unit = λ plan p h. tried-has ds matches ssa plan p (is-tried c ds matches ssa deps plan p h);
}

pub is-packing : (ds : List Description) (matches : List Match) (ssa : Ssa) (deps : List (ℕ × ℕ))
    → IsWorld (packing ds matches ssa deps)
is-packing ds matches ssa deps = is-packing_by unfed ds matches ssa deps
