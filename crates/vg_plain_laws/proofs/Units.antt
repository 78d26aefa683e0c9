-- Packs of a kernel take at most two operands for each of their units, and a plan has no unit twice.
use Rattle.std.proofs.Common.{◌≡◌, ℕ, zero, suc, ◌*◌, ◌/◌, ◌<◌, ◌≤◌, Bool, true, false, List, [], ◌∷◌, length, refl, sym, ap, subst, inl, inr, arith}
use Rattle.std.specs.Prelude.{nat_eq}
use Rattle.std.specs.Cmp.Lexicographic.{pointwise}
use Rattle.vg_plans.specs.Members.{Has}
use Rattle.vg_plans.proofs.Disjoint.{unique-length}
use Rattle.vg_plans.proofs.Members.{from-filter, has-append, Unique}
use Rattle.vg_shapes.specs.declared.match_table.Bound.{Bound}
use Rattle.vg_shapes.specs.declared.match_table.Match.{Match}
use Rattle.vg_shapes.specs.declared.operand.Operand.{Operand}
use Rattle.vg_shapes.specs.declared.pack.Pack.{Pack}
use Rattle.vg_shapes.specs.declared.pack.Pack.TheVariants.{Stores, Loads, Call}
use Rattle.vg_shapes.specs.declared.ssa.Ssa.{Ssa}
use Rattle.vg_shapes.specs.Description.{Description}
use Rattle.vg_shapes.specs.Matches.{AreMatches}
use Rattle.vg_shapes.specs.Nodes.{packed}
use Rattle.vg_shapes.specs.Order.{count_of, one_if}
use Rattle.vg_shapes.specs.Pack.{bounds_from, units_of}
use Rattle.vg_shapes.specs.Sound.{IsSound}
use Rattle.vg_shapes.specs.Units.{is_unit}
use Rattle.vg_kernel_plans.specs.declared.choice.Choice.{Choice}
use Rattle.vg_kernel_plans.specs.Fed.{fed_aligned, packing_by, unfed}
use Rattle.vg_kernel_plans.specs.Held.{lanes_from}
use Rattle.vg_kernel_plans.specs.LoadGroups.{feeds as has_fed, load_groups}
use Rattle.vg_kernel_plans.specs.Packing.{falling_units, packing, sizes_of}
use Rattle.vg_kernel_plans.specs.Producers.{call_producer, call_producers, can_be_produced, lanes_for, load_producer}
use Rattle.vg_kernel_plans.specs.SameAs.{same_slot}
use Rattle.vg_kernel_plans.specs.Taken.{operands_from, operands_of, params_of}
use Rattle.vg_kernel_plans.specs.Wants.{wanted_slots, wanted_values}
use Rattle.vg_kernel_plans.proofs.FedPlans.{may-be-fed}
use Rattle.vg_kernel_plans.proofs.Inside.{units-counted, units-listed}
use Rattle.vg_kernel_plans.proofs.SameTests.{both-true, eq-itself, list-is, slot-is}
use Rattle.vg_kernel_plans.proofs.LoadPacks.{load-group}
use Rattle.vg_kernel_plans.proofs.Tried.{IsTried, feeds, group, if-has, is-tried, produces, tried-unfed}
use Rattle.vg_packs.specs.Laws.{IsGroup}
use Rattle.vg_packs.proofs.Once.{groups-listed}
use Rattle.vg_plan_relations.proofs.Exact.{has-two}
use Rattle.vg_plan_laws.proofs.Packs.{plan-packs}
use Rattle.vg_plain_laws.specs.Laws.{CompletedPlansEndInTime, PlainPlansLeaveNothing, TakeFew}
use Rattle.vg_plain_laws.proofs.Ends.{HaveUnits, TakeTwo, plain-stays, plain-tried, plain-walks, total-flat}
use Rattle.vg_plain_laws.proofs.Stays.{careful-stays, chosen-stays, completed-stays, produced-walks}

-- ---- operands

operands-counted : (bounds : List Bound) (k : ℕ) (params : List ℕ)
    → length (operands_from bounds k params) ≡ length params
operands-counted bounds k [] = refl
operands-counted bounds k (register ∷ params) = ap suc (operands-counted bounds (suc k) params)

params-few : (ds : List Description) (d : ℕ) → TakeFew ds → length (params_of ds d) ≤ 4
params-few [] d few = omega arith
params-few (x ∷ ds) zero few = few.0
params-few (x ∷ ds) (suc d) few = params-few ds d few.1

module _ (ds : List Description) (matches : List Match) (ssa : Ssa) where
  -- at most two operands for each unit
  abbrev TakesTwo : Pack → Type 0
  TakesTwo p = length (operands_of ds matches ssa p) ≤ 2 * length (units_of p)

  group-two : (p : Pack) → IsGroup ssa p → TakesTwo p
  group-two (Stores us) is = (let some : 2 ≤ length us = is.6 in omega (arith, some))
  group-two (Loads us) is = absurd is
  group-two (Call d lanes) is = absurd is

  load-two : (o : Operand) (p : Pack) → Has p (load_producer ssa o) → TakesTwo p
  load-two o p h = subst TakesTwo (if-has _ (Loads (wanted_values o)) p h).1 (omega arith)

  call-two : (few : TakeFew ds) (o : Operand) (p : Pack) (d : ℕ) (es : List Description)
      → Has p (call_producers ds matches ssa o d es) → TakesTwo p
  call-two few o p d [] h = absurd h
  call-two few o p d (e ∷ es) h =
      elim (has-append p (call_producer ds matches ssa o d e) (call_producers ds matches ssa o (suc d) es) h) [
        | inl l ↦
            let lanes = lanes_for (e.register / e.lane_width) 0 e.lane_width o.slots in
            let a = if-has _ (Call d lanes) p l in
            let b = both-true (can_be_produced o) _ a.0 in
            let b2 = both-true (nat_eq e.register o.register) _ b.1 in
            let b3 = both-true (pointwise same_slot (wanted_slots o) (lanes_from 0 e.lane_width lanes)) _ b2.1 in
            let same = list-is same_slot slot-is (wanted_slots o) (lanes_from 0 e.lane_width lanes) b3.0 in
            let some = has-two o e.lane_width lanes same b.0 in
            let counted = operands-counted (bounds_from matches d 0 lanes) 0 (params_of ds d) in
            subst TakesTwo a.1 (omega (arith, some, counted, params-few ds d few))
        | inr r ↦ call-two few o p (suc d) es r
      ]

  tried-two : (deps : List (ℕ × ℕ)) → TakeFew ds → TakeTwo (packing ds matches ssa deps)
  tried-two deps few plan p h =
      elim (tried-unfed ds matches ssa deps plan p h) [
        | inl l ↦ group-two p ((groups-listed ssa).right p l)
        | inr t ↦
            elim (has-append p (load_producer ssa t.1) (call_producers ds matches ssa t.1 0 ds) t.4) [
              | inl l ↦ load-two t.1 p l
              | inr s ↦ call-two few t.1 p 0 ds s
            ]
      ]

  load-group-two : (register : ℕ) (p : Pack) → Has p (load_groups ssa register) → TakesTwo p
  load-group-two register p h = subst TakesTwo (sym (load-group ssa register p h).pack) (omega arith)

  -- so whatever is tried
  tried-by-two : (c : Choice) (deps : List (ℕ × ℕ)) → TakeFew ds → TakeTwo (packing_by c ds matches ssa deps)
  tried-by-two c deps few plan p h = elim (is-tried c ds matches ssa deps plan p h) [
    | group l ↦ group-two p ((groups-listed ssa).right p l)
    | produces q o in_plan taken l ↦ elim (has-append p (load_producer ssa o) (call_producers ds matches ssa o 0 ds) l) [
      | inl loaded ↦ load-two o p loaded
      | inr called ↦ call-two few o p 0 ds called
    ]
    | feeds q o in_plan taken l ↦ load-group-two o.register p (from-filter (has_fed o) p (load_groups ssa o.register) l).0
  ]

-- ---- units

counted-has : (v : ℕ) (vs : List ℕ) → Has v vs → 0 < count_of v vs
counted-has v [] h = absurd h
counted-has v (u ∷ vs) h = elim h [
  | inl e ↦ (let one : one_if (nat_eq v u) ≡ 1 = ap one_if (subst (λ y. nat_eq v y ≡ true) (sym e) (eq-itself v)) in
      omega (arith, one))
  | inr r ↦ (let rest = counted-has v vs r in omega (arith, rest))
]

once-unique : (vs : List ℕ) → ((v : ℕ) → count_of v vs ≤ 1) → Unique vs
once-unique [] once = tt
once-unique (u ∷ vs) once = (
  (λ h.
      let more = counted-has u vs h in
      let own : one_if (nat_eq u u) ≡ 1 = ap one_if (eq-itself u) in
      let most = once u in
      omega (arith, more, own, most)),
  once-unique vs (λ v. let most = once v in omega (arith, most)),
)

plan-units : (c : Choice) (ds : List Description) (matches : List Match) (ssa : Ssa) (deps : List (ℕ × ℕ)) → IsSound ssa
    → AreMatches ds ssa matches
    → HaveUnits (packing_by c ds matches ssa deps) (length ssa.units)
plan-units c ds matches ssa deps sound are plan is =
    let packs = plan-packs ds matches ssa deps plan sound are (may-be-fed ds matches ssa deps c plan is) in
    let unique = once-unique (packed plan) (λ v. let most = packs.once v in omega
    (arith, most, one-most (is_unit ssa v))) in
    let inside = unique-length (packed plan) (falling_units ssa) unique
    (λ v h. units-listed ssa v (unit-is v (is_unit ssa v) refl (packs.once v) (counted-has v (packed plan) h))) in
    omega (arith, inside, units-counted ssa, total-flat units_of plan)
  where
    one-most : (b : Bool) → one_if b ≤ 1
    one-most true = omega arith
    one-most false = omega arith

    unit-is : (v : ℕ) (b : Bool) → is_unit ssa v ≡ b → count_of v (packed plan) ≤ one_if b
        → 0 < count_of v (packed plan) → is_unit ssa v ≡ true
    unit-is v true e most some = e
    unit-is v false e most some = absurd (omega (arith, most, some))

-- ---- the plain plan

pub plain-plans-leave-nothing : PlainPlansLeaveNothing
plain-plans-leave-nothing ds matches ssa deps sound are few =
    let w = packing ds matches ssa deps in
    let two = tried-two ds matches ssa deps few in
    let most = plan-units unfed ds matches ssa deps sound are in
    record {
      walked = plain-walks w (length ssa.units) two most;
      stays = plain-stays w (length ssa.units) two most;
      tried = plain-tried w (length ssa.units) two most;
    }

-- ---- plans that are completed

pub completed-plans-end-in-time : CompletedPlansEndInTime
completed-plans-end-in-time ds matches ssa deps sound are few =
    let w = packing_by fed_aligned ds matches ssa deps in
    let two = tried-by-two ds matches ssa fed_aligned deps few in
    let most = plan-units fed_aligned ds matches ssa deps sound are in
    let n = length ssa.units in
    record {
      plain = λ turns l. plain-stays w n two most turns l;
      walked = λ plan is. produced-walks w n two most plan is;
      completed = λ plan turns is l. completed-stays w n two most turns plan l is;
      careful = λ turns l. careful-stays w n two most turns l;
      chosen = λ width turns l. chosen-stays w n two most turns width (sizes_of ssa) l;
    }
