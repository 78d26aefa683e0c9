-- The packs of a plan are store groups, loads beside each other and matched calls, and no unit
-- stands twice in one of them.
use Rattle.std.proofs.Common.{◌≡◌, ℕ, suc, ◌+◌, ◌/◌, ◌<◌, List, [], ◌∷◌, Some, refl, sym, ap, subst, ◌∙◌, inl, inr, arith}
use Rattle.std.specs.Prelude.{ℤ, pos, ◌+ℤ◌, nat_eq, slice_get}
use Rattle.std.specs.Cmp.Lexicographic.{pointwise}
use Rattle.std.specs.List.{filter_map}
use Rattle.std.proofs.Math.IntN.{+ℤ_assoc, pos-+ℤ-pos}
use Rattle.std.proofs.lemmas.Int.{ints}
use Rattle.vg_base.specs.declared.address.Address.{Address}
use Rattle.vg_base.specs.declared.width.Width.{Width}
use Rattle.vg_base.specs.declared.width.Width.TheVariants.{W8, W16, W32, W64}
use Rattle.vg_base.specs.Width.{size_of}
use Rattle.vg_plans.specs.Crowded.{IsPlan, empty, more}
use Rattle.vg_plans.specs.Members.{Every, Has}
use Rattle.vg_plans.specs.World.{follows, stays_plan, tried}
use Rattle.vg_plans.proofs.Lists.{every-append}
use Rattle.vg_plans.proofs.Members.{from-filter, has-append, Unique}
use Rattle.vg_shapes.specs.declared.match_table.Match.{Match}
use Rattle.vg_shapes.specs.declared.operand.Operand.{Operand}
use Rattle.vg_shapes.specs.declared.pack.Pack.{Pack}
use Rattle.vg_shapes.specs.declared.pack.Pack.TheVariants.{Stores, Loads, Call}
use Rattle.vg_shapes.specs.declared.ssa.Ssa.{Ssa}
use Rattle.vg_shapes.specs.declared.ssa_unit.SsaUnit.TheVariants.{Load, Store}
use Rattle.vg_shapes.specs.declared.wanted.Wanted.{Wanted}
use Rattle.vg_shapes.specs.Description.{Description}
use Rattle.vg_shapes.specs.Pack.{AreLoads, AreStores, behind, units_of}
use Rattle.vg_shapes.specs.Units.{unit_at}
use Rattle.vg_kernel_plans.specs.declared.choice.Choice.{Choice}
use Rattle.vg_kernel_plans.specs.Fed.{fed, packing_by}
use Rattle.vg_kernel_plans.specs.Held.{lanes_from}
use Rattle.vg_kernel_plans.specs.LoadGroups.{feeders}
use Rattle.vg_kernel_plans.specs.Producers.{are_matched, call_producer, call_producers, can_be_produced, lanes_for, load_producer, producers}
use Rattle.vg_kernel_plans.specs.SameAs.{same_slot}
use Rattle.vg_kernel_plans.specs.Wants.{wanted_slots, wanted_values}
use Rattle.vg_kernel_plans.proofs.SameTests.{both-true, eq-itself, list-is, slot-is}
use Rattle.vg_kernel_plans.proofs.Tried.{IsTried, feeder-group, feeds, group, if-has, is-tried, produces}
use Rattle.vg_packs.proofs.Once.{groups-listed}
use Rattle.vg_plan_relations.specs.Produces.{Produces}
use Rattle.vg_plan_relations.proofs.Calling.{lanes-count}
use Rattle.vg_plan_relations.proofs.Exact.{has-once}
use Rattle.vg_plan_relations.proofs.Lists.{differ-unique}
use Rattle.vg_plan_relations.proofs.Loading.{load-right}
use Rattle.vg_plan_laws.specs.Made.{IsMade}

-- a pack that is made, no unit of which stands twice
pub record IsSingle
    (ds : List Description) (matches : List Match) (ssa : Ssa) (p : Pack)
    : Type 0 where
  pub made : IsMade ds matches ssa p
  pub once : Unique (units_of p)

-- ---- store groups

further : (z : ℤ) (m : ℕ) → 0 < m → z ≡ z +ℤ pos m → ⊥
further z m l e = absurd (omega (arith, ints))

-- a store so many bytes after an address
abbrev IsBehind : Ssa → Address → ℕ → Type 0
IsBehind ssa a v =
    (b : Address) × (w : Width) × (x : Wanted) × (n : ℕ) × (unit_at ssa v ≡ Some (Store b w x))
    × (b.offset ≡ a.offset +ℤ pos n)

store-behind : (ssa : Ssa) (w : Width) (a : Address) (us : List ℕ) (xs : List Wanted) (v : ℕ)
    → AreStores ssa w a us xs → Has v us → IsBehind ssa a v
store-behind ssa w a [] xs v are h = absurd h
store-behind ssa w a (u ∷ us) [] v are h = absurd are
store-behind ssa w a (u ∷ us) (x ∷ xs) v are h = elim h [
  | inl e ↦ (a, w, x, 0, subst (λ y. unit_at ssa y ≡ Some (Store a w x)) e are.0, none a.offset)
  | inr rest ↦
      let k = store-behind ssa w (behind a (size_of w)) us xs v are.1 rest in
      let off : k.0.offset ≡ a.offset +ℤ pos (size_of w + k.3) =
      k.5 ∙ +ℤ_assoc a.offset (pos (size_of w)) (pos k.3) ∙ ap (λ z. a.offset +ℤ z)
      (pos-+ℤ-pos (size_of w) k.3) in
      (k.0, k.1, k.2, size_of w + k.3, k.4, off)
]
  where
    none : (z : ℤ) → z ≡ z +ℤ pos 0
    none z = omega (arith, ints)

size-some : (w : Width) → 0 < size_of w
size-some W8 = omega arith
size-some W16 = omega arith
size-some W32 = omega arith
size-some W64 = omega arith

stores-unique : (ssa : Ssa) (w : Width) (a : Address) (us : List ℕ) (xs : List Wanted)
    → AreStores ssa w a us xs → Unique us
stores-unique ssa w a [] xs are = tt
stores-unique ssa w a (u ∷ us) [] are = absurd are
stores-unique ssa w a (u ∷ us) (x ∷ xs) are = (
  (λ h.
      let k = store-behind ssa w (behind a (size_of w)) us xs u are.1 h in
      let same : Some (Store a w x) ≡ Some (Store k.0 k.1 k.2) = sym are.0 ∙ k.4 in
      let place : a ≡ k.0 = cc in
      let off : a.offset ≡ a.offset +ℤ pos (size_of w + k.3) =
      ap (λ (b : Address). b.offset) place ∙ k.5 ∙ +ℤ_assoc a.offset (pos (size_of w)) (pos k.3)
      ∙ ap (λ z. a.offset +ℤ z) (pos-+ℤ-pos (size_of w) k.3) in
      let some = size-some w in
      further a.offset (size_of w + k.3) (omega arith) off),
  stores-unique ssa w (behind a (size_of w)) us xs are.1,
)

-- ---- load groups

-- a load so many bytes after an address
abbrev IsLoadBehind : Ssa → Address → ℕ → Type 0
IsLoadBehind ssa a v =
    (b : Address) × (w : Width) × (n : ℕ) × (unit_at ssa v ≡ Some (Load b w))
    × (b.offset ≡ a.offset +ℤ pos n)

load-behind : (ssa : Ssa) (w : Width) (a : Address) (us : List ℕ) (v : ℕ) → AreLoads ssa w a us
    → Has v us → IsLoadBehind ssa a v
load-behind ssa w a [] v are h = absurd h
load-behind ssa w a (u ∷ us) v are h = elim h [
  | inl e ↦ (a, w, 0, subst (λ y. unit_at ssa y ≡ Some (Load a w)) e are.0, none a.offset)
  | inr rest ↦
      let k = load-behind ssa w (behind a (size_of w)) us v are.1 rest in
      let off : k.0.offset ≡ a.offset +ℤ pos (size_of w + k.2) =
      k.4 ∙ +ℤ_assoc a.offset (pos (size_of w)) (pos k.2) ∙ ap (λ z. a.offset +ℤ z)
      (pos-+ℤ-pos (size_of w) k.2) in
      (k.0, k.1, size_of w + k.2, k.3, off)
]
  where
    none : (z : ℤ) → z ≡ z +ℤ pos 0
    none z = omega (arith, ints)

loads-unique : (ssa : Ssa) (w : Width) (a : Address) (us : List ℕ) → AreLoads ssa w a us → Unique us
loads-unique ssa w a [] are = tt
loads-unique ssa w a (u ∷ us) are = (
  (λ h.
      let k = load-behind ssa w (behind a (size_of w)) us u are.1 h in
      let same : Some (Load a w) ≡ Some (Load k.0 k.1) = sym are.0 ∙ k.3 in
      let place : a ≡ k.0 = cc in
      let off : a.offset ≡ a.offset +ℤ pos (size_of w + k.2) =
      ap (λ (b : Address). b.offset) place ∙ k.4 ∙ +ℤ_assoc a.offset (pos (size_of w)) (pos k.2)
      ∙ ap (λ z. a.offset +ℤ z) (pos-+ℤ-pos (size_of w) k.2) in
      let some = size-some w in
      further a.offset (size_of w + k.2) (omega arith) off),
  loads-unique ssa w (behind a (size_of w)) us are.1,
)

-- ---- packs that are tried

load-single : (ds : List Description) (matches : List Match) (ssa : Ssa) (o : Operand) (p : Pack)
    → Has p (load_producer ssa o) → IsSingle ds matches ssa p
load-single ds matches ssa o p h =
    let a = if-has _ (Loads (wanted_values o)) p h in
    let is : Produces ds matches ssa (Loads (wanted_values o)) o =
    subst (λ q. Produces ds matches ssa q o) (sym a.1) (load-right ds matches ssa o p h) in
    subst (IsSingle ds matches ssa) a.1 (record {
      made = is.pack;
      once = differ-unique nat_eq eq-itself (wanted_values o) is.once;
    })

call-single : (ds : List Description) (matches : List Match) (ssa : Ssa) (o : Operand) (p : Pack)
    (d : ℕ) (es : List Description)
    → ((k : ℕ) (e : Description) → slice_get es k ≡ Some e → slice_get ds (d + k) ≡ Some e)
    → Has p (call_producers ds matches ssa o d es) → IsSingle ds matches ssa p
call-single ds matches ssa o p d [] there h = absurd h
call-single ds matches ssa o p d (e ∷ es) there h =
    elim (has-append p (call_producer ds matches ssa o d e)
    (call_producers ds matches ssa o (suc d) es) h) [
      | inl l ↦
          let lanes = lanes_for (e.register / e.lane_width) 0 e.lane_width o.slots in
          let a = if-has _ (Call d lanes) p l in
          let b = both-true (can_be_produced o) _ a.0 in
          let b2 = both-true (nat_eq e.register o.register) _ b.1 in
          let b3 =
          both-true (pointwise same_slot (wanted_slots o)
          (lanes_from 0 e.lane_width lanes)) _ b2.1 in
          let b4 = both-true (are_matched matches d 0 lanes) _ b3.1 in
          let same =
          list-is same_slot slot-is (wanted_slots o) (lanes_from 0 e.lane_width lanes) b3.0 in
          let start : d + 0 ≡ d = omega arith in
          subst (IsSingle ds matches ssa) a.1 (record {
            made = record {
              entry = e;
              there = subst (λ n. slice_get ds n ≡ Some e) start (there 0 e refl);
              long = lanes-count (e.register / e.lane_width) 0 e.lane_width o.slots;
              matched = b4.0;
              agreed = b4.1;
            };
            once = differ-unique nat_eq eq-itself (filter_map (λ v. v) lanes)
                (has-once o e.lane_width lanes same b.0);
          })
      | inr r ↦ call-single ds matches ssa o p (suc d) es
          (λ k x g. let same : d + suc k
          ≡ suc d + k = omega arith in subst (λ n. slice_get ds n
          ≡ Some x) same (there (suc k) x g)) r
    ]

group-single : (ds : List Description) (matches : List Match) (ssa : Ssa) (p : Pack)
    → Rattle.vg_packs.specs.Laws.IsGroup ssa p → IsSingle ds matches ssa p
group-single ds matches ssa (Stores us) g =
    record { made = g; once = stores-unique ssa g.0 g.1 us g.2 g.4 }
group-single ds matches ssa (Loads us) g = absurd g
group-single ds matches ssa (Call d lanes) g = absurd g

produced-single : (ds : List Description) (matches : List Match) (ssa : Ssa) (o : Operand) (p : Pack)
    → Has p (producers ds matches ssa o) → IsSingle ds matches ssa p
produced-single ds matches ssa o p h =
    elim (has-append p (load_producer ssa o) (call_producers ds matches ssa o 0 ds) h) [
      | inl l ↦ load-single ds matches ssa o p l
      | inr s ↦ call-single ds matches ssa o p 0 ds
          (λ k e g. let same : k ≡ 0 + k = omega arith in subst (λ n. slice_get ds n
          ≡ Some e) same g) s
    ]

fed-single : (ds : List Description) (matches : List Match) (ssa : Ssa) (o : Operand) (p : Pack)
    → Has p (feeders ssa o) → IsSingle ds matches ssa p
fed-single ds matches ssa o p h =
    let g = feeder-group ssa o p h in
    let loads = g.loads in
    subst (IsSingle ds matches ssa) (sym g.pack) (record {
      made = loads;
      once = loads-unique ssa loads.0 loads.1 g.units loads.2;
    })

-- whatever is tried
pub tried-single : (c : Choice) (ds : List Description) (matches : List Match) (ssa : Ssa)
    (deps : List (ℕ × ℕ)) (plan : List Pack) (p : Pack)
    → Has p (tried (packing_by c ds matches ssa deps) plan) → IsSingle ds matches ssa p
tried-single c ds matches ssa deps plan p h = of (is-tried c ds matches ssa deps plan p h)
  where
    of : IsTried ds matches ssa plan p → IsSingle ds matches ssa p
    of (group l) = group-single ds matches ssa p ((groups-listed ssa).right p l)
    of (produces q o a b m) = produced-single ds matches ssa o p m
    of (feeds q o a b f) = fed-single ds matches ssa o p f

-- ---- plans

-- each pack of a plan is made
pub plan-made : (ds : List Description) (matches : List Match) (ssa : Ssa) (deps : List (ℕ × ℕ))
    (plan : List Pack)
    → IsPlan (follows (packing_by fed ds matches ssa deps)) plan → Every (IsSingle ds matches ssa) plan
plan-made ds matches ssa deps _ empty = tt
plan-made ds matches ssa deps _ (more plan p is has) =
    let w = packing_by fed ds matches ssa deps in
    let k = from-filter (stays_plan w plan) p (tried w plan) has in
    every-append (IsSingle ds matches ssa) plan (p ∷ []) (plan-made ds matches ssa deps plan is)
    (tried-single fed ds matches ssa deps plan p k.0, tt)
