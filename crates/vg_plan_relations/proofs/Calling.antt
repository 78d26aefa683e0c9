-- The calls of the list produce the operand, and a call that does is that of the list.
use Rattle.std.proofs.Common.{◌≡◌, ℕ, zero, suc, ◌+◌, ◌*◌, ◌/◌, ◌<◌, ◌≤◌, Bool, true, List, [], ◌∷◌, length, refl, sym, ◌∙◌, ap, subst, inl, inr, arith, mul-div_cancel}
use Rattle.std.specs.Prelude.{◌&&◌, find, is_some, nat_eq, Option, Some, None, slice_get}
use Rattle.std.specs.List.{filter_map, list_all}
use Rattle.std.specs.Option.{option_map_or}
use Rattle.std.specs.Cmp.Lexicographic.{pointwise}
use Rattle.std.proofs.lemmas.Bool.{cases_Bool}
use Rattle.std.proofs.lemmas.Bool.Decides.{nat_tests}
use Rattle.vg_plans.specs.Members.{Has}
use Rattle.vg_shapes.specs.declared.match_table.Match.{Match}
use Rattle.vg_shapes.specs.declared.operand.Operand.{Operand}
use Rattle.vg_shapes.specs.declared.operand.Slot.{Slot}
use Rattle.vg_shapes.specs.declared.pack.Pack.{Pack}
use Rattle.vg_shapes.specs.declared.pack.Pack.TheVariants.{Call}
use Rattle.vg_shapes.specs.declared.ssa.Ssa.{Ssa}
use Rattle.vg_shapes.specs.declared.wanted.Wanted.{Wanted}
use Rattle.vg_shapes.specs.declared.wanted.Wanted.TheVariants.{Value, Constant, Nothing}
use Rattle.vg_shapes.specs.Description.{Description, IsPackable}
use Rattle.vg_shapes.specs.Matches.{AreMatches}
use Rattle.vg_shapes.specs.Pack.{match_at}
use Rattle.vg_kernel_plans.specs.Held.{lane_width_of, lanes_from, register_of}
use Rattle.vg_kernel_plans.specs.Producers.{agree, are_matched, call_producer, can_be_produced, lanes_for, value_at}
use Rattle.vg_kernel_plans.specs.SameAs.{same_slot}
use Rattle.vg_kernel_plans.specs.Taken.{operands_of}
use Rattle.vg_kernel_plans.specs.Wants.{is_wanted, slot, value_of, wanted_slots}
use Rattle.vg_kernel_plans.proofs.SameTests.{both-true, list-is, slot-is}
use Rattle.vg_kernel_plans.proofs.Tried.{if-has}
use Rattle.vg_match.proofs.Laws.{wide-found}
use Rattle.vg_plan_relations.specs.Produces.{AreRising, HasLane, IsCallPack, LaneFits, Produces}
use Rattle.vg_plan_relations.proofs.Agreeing.{agree-binds, binds-agree}
use Rattle.vg_plan_relations.proofs.Exact.{and-true, can-be, exact, has-once, has-two, IsLaneAt, lane-wanted, one-if, wanted-lane}
use Rattle.vg_plan_relations.proofs.Fitting.{at-matched, found-fit, lane-term, lane-wide, lane-with, matched-at}
use Rattle.vg_plan_relations.proofs.Loading.{slots-itself}
use Rattle.vg_plan_relations.proofs.Rising.{one-at}

-- ---- the lanes of a call

pub lanes-count : (n low w : ℕ) (slots : List Slot) → length (lanes_for n low w slots) ≡ n
lanes-count zero low w slots = refl
lanes-count (suc n) low w slots = ap suc (lanes-count n (low + w) w slots)

-- a slot stands at a bit, this wide
abbrev at_bit : ℕ → ℕ → Slot → Bool
at_bit low w s = nat_eq s.low low && nat_eq s.width w

lanes-made : (n low w : ℕ) (slots : List Slot) (lanes : List (Option ℕ)) → length lanes ≡ n
    → ((i : ℕ) (o : Option ℕ) → slice_get lanes i ≡ Some o → o ≡ value_at (find (at_bit (low + i * w) w) slots))
    → lanes ≡ lanes_for n low w slots
lanes-made zero low w slots [] l f = refl
lanes-made zero low w slots (o ∷ lanes) l f = absurd (omega (arith, l))
lanes-made (suc n) low w slots [] l f = absurd (omega (arith, l))
lanes-made (suc n) low w slots (o ∷ lanes) l f =
    let start : low + 0 * w ≡ low = omega arith in
    let first : o ≡ value_at (find (at_bit low w) slots) = f zero o refl ∙ ap (λ m. value_at (find (at_bit m w) slots)) start in
    let rest = lanes-made n (low + w) w slots lanes (omega (arith, l)) (λ i x e.
    let at : low + suc i * w ≡ low + w + i * w = grind arith in
    f (suc i) x e ∙ ap (λ m. value_at (find (at_bit m w) slots)) at) in
    ap (λ x. x ∷ lanes) first ∙ ap (λ xs. value_at (find (at_bit low w) slots) ∷ xs) rest

-- what is found is there and passes
found-is : {X : Type 0} (test : X → Bool) (xs : List X) (x : X) → find test xs ≡ Some x → Has x xs × (test x ≡ true)
found-is test [] x e = absurd (cc)
found-is test (y ∷ xs) x e = elim (cases_Bool (test y)) [
  | inl t ↦
      let same : Some y ≡ Some x = rw t at e in
      let is : y ≡ x = cc in
      (inl is, subst (λ z. test z ≡ true) is t)
  | inr f ↦ let k = found-is test xs x (rw f at e) in (inr k.0, k.1)
]

-- what passes lets something be found
find-some : {X : Type 0} (test : X → Bool) (xs : List X) (x : X) → Has x xs → test x ≡ true → (y : X) × (find test xs ≡ Some y)
find-some test [] x h t = absurd h
find-some test (y ∷ xs) x h t = elim (cases_Bool (test y)) [
  | inl u ↦ (y, rw u refl)
  | inr f ↦ elim h [
    | inl e ↦ absurd (let u : test y ≡ true = subst (λ z. test z ≡ true) (sym e) t in cc)
    | inr k ↦ let r = find-some test xs x k t in (r.0, rw f r.1)
  ]
]

bit-is : (low w : ℕ) (s : Slot) → at_bit low w s ≡ true → (s.low ≡ low) × (s.width ≡ w)
bit-is low w s t =
    let b = both-true (nat_eq s.low low) (nat_eq s.width w) t in
    ((let p = b.0 in grind (arith, nat_tests, p)), (let q = b.1 in grind (arith, nat_tests, q)))

times-same : (i j w : ℕ) → 0 < w → i * w ≡ j * w → i ≡ j
times-same i j w l e = sym (mul-div_cancel i l) ∙ ap (λ n. n / w) e ∙ mul-div_cancel j l

module _ (o : Operand) (w : ℕ) (lanes : List (Option ℕ)) (rise : AreRising o.slots) (wide : 0 < w)
    (wanted : (s : Slot) → Has s o.slots → is_wanted s.wanted ≡ true → IsLaneAt w lanes s)
    (there : (s : Slot) → IsLaneAt w lanes s → Has s o.slots) where
  -- a slot at a lane without a value wants nothing
  unwanted : (i : ℕ) (s : Slot) (x : Wanted) → slice_get lanes i ≡ Some None → Has s o.slots → s.low ≡ i * w → s.wanted ≡ x → None ≡ value_of x
  unwanted i s Nothing e h l is = refl
  unwanted i s (Value u) e h l is =
      let t : is_wanted s.wanted ≡ true = ap is_wanted is in
      let k = wanted s h t in
      let same : i * w ≡ k.0 * w = sym l ∙ ap (λ (s : Slot). s.low) k.3 in
      let at = times-same i k.0 w wide same in
      let f : slice_get lanes i ≡ Some (Some k.1) = ap (slice_get lanes) at ∙ k.2 in
      absurd (cc)
  unwanted i s (Constant c n) e h l is =
      let t : is_wanted s.wanted ≡ true = ap is_wanted is in
      let k = wanted s h t in
      let same : Constant c n ≡ Value k.1 = sym is ∙ ap (λ (s : Slot). s.wanted) k.3 in
      absurd (cc)

  lane-empty : (i : ℕ) (f : Option Slot) → slice_get lanes i ≡ Some None → find (at_bit (0 + i * w) w) o.slots ≡ f → None ≡ value_at f
  lane-empty i None e q = refl
  lane-empty i (Some s) e q =
      let k = found-is (at_bit (0 + i * w) w) o.slots s q in
      let b = bit-is (0 + i * w) w s k.1 in
      let z : 0 + i * w ≡ i * w = omega arith in
      unwanted i s s.wanted e k.0 (b.0 ∙ z) refl

  lane-full : (i v : ℕ) → HasLane lanes i v → Some v ≡ value_at (find (at_bit (0 + i * w) w) o.slots)
  lane-full i v e =
      let s = slot (i * w) w (Value v) in
      let h = there s (i, v, e, refl) in
      let z : 0 + i * w ≡ i * w = omega arith in
      let t : at_bit (0 + i * w) w s ≡ true =
      and-true _ _ (let p : nat_eq (i * w) (0 + i * w) ≡ true = grind (arith, nat_tests, z) in p) (let q : nat_eq w w ≡ true = grind (arith, nat_tests) in q) in
      let f = find-some (at_bit (0 + i * w) w) o.slots s h t in
      let k = found-is (at_bit (0 + i * w) w) o.slots f.0 f.1 in
      let b = bit-is (0 + i * w) w f.0 k.1 in
      let same = one-at o.slots s f.0 rise h k.0 (sym z ∙ sym b.0) in
      ap (λ (s : Slot). value_of s.wanted) same ∙ sym (ap value_at f.1)

  lane-for : (i : ℕ) (x : Option ℕ) → slice_get lanes i ≡ Some x → x ≡ value_at (find (at_bit (0 + i * w) w) o.slots)
  lane-for i None e = lane-empty i (find (at_bit (0 + i * w) w) o.slots) e refl
  lane-for i (Some v) e = lane-full i v e

  pub lanes-are : (n : ℕ) → length lanes ≡ n → lanes ≡ lanes_for n 0 w o.slots
  lanes-are n l = lanes-made n 0 w o.slots lanes l lane-for

-- ---- one call

module _ (ds : List Description) (matches : List Match) (ssa : Ssa) (o : Operand) (d : ℕ) (e : Description)
    (are : AreMatches ds ssa matches) (at : slice_get ds d ≡ Some e) (packable : IsPackable e) where
  width-is : (lanes : List (Option ℕ)) → lane_width_of ds ssa (Call d lanes) ≡ e.lane_width
  width-is lanes = ap (λ x. option_map_or (λ (y : Description). y.lane_width) x 0) at

  register-is : (lanes : List (Option ℕ)) → register_of ds ssa (Call d lanes) ≡ e.register
  register-is lanes = ap (λ x. option_map_or (λ (y : Description). y.register) x 0) at

  fitting-wide : (lanes : List (Option ℕ)) → ((i v : ℕ) → HasLane lanes i v → LaneFits ds ssa d i v) → 2 ≤ length (filter_map (λ v. v) lanes) → 0 < e.lane_width
  fitting-wide lanes fit two =
      let l = lane-with lanes (omega (arith, two)) in
      let f = fit l.0 l.1 l.2 in
      lane-wide e l.0 f.0 packable (lane-term ds d l.0 e f.0 at f.2)

  lane-count : 0 < e.lane_width → e.register / e.lane_width ≡ length e.lanes
  lane-count wide = ap (λ n. n / e.lane_width) (sym packable.fill) ∙ mul-div_cancel (length e.lanes) wide

  pub call-right : (p : Pack) → Has p (call_producer ds matches ssa o d e) → Produces ds matches ssa p o
  call-right p h =
      let lw = e.lane_width in
      let lanes = lanes_for (e.register / e.lane_width) 0 e.lane_width o.slots in
      let a = if-has _ (Call d lanes) p h in
      let b = both-true (can_be_produced o) _ a.0 in
      let b2 = both-true (nat_eq e.register o.register) _ b.1 in
      let b3 = both-true (pointwise same_slot (wanted_slots o) (lanes_from 0 lw lanes)) _ b2.1 in
      let b4 = both-true (are_matched matches d 0 lanes) _ b3.1 in
      let same = list-is same_slot slot-is (wanted_slots o) (lanes_from 0 lw lanes) b3.0 in
      let two = has-two o lw lanes same b.0 in
      let fit : (i v : ℕ) → HasLane lanes i v → LaneFits ds ssa d i v = λ i v k.
      let z : 0 + i ≡ i = omega arith in
      let t = subst (λ n. is_some (match_at matches d n v) ≡ true) z (matched-at matches d 0 i v lanes b4.0 k) in
      let f = found-fit ds matches ssa d i v are t in
      (f.term, f.found.bound, f.lane, f.fits) in
      let wide = fitting-wide lanes fit two in
      let register : e.register ≡ o.register = (let t = b2.0 in grind (arith, nat_tests, t)) in
      let pack : IsCallPack ds matches ssa d lanes = record {
        instance = e;
        listed = at;
        long = lanes-count (e.register / e.lane_width) 0 e.lane_width o.slots ∙ lane-count wide;
        fit = fit;
        two = two;
        agree = agree-binds ds matches ssa d e lanes are at packable b4.1;
      } in
      subst (λ q. Produces ds matches ssa q o) a.1 (record {
        pack = pack;
        once = has-once o lw lanes same b.0;
        register = register-is lanes ∙ register;
        wanted = λ s k t. subst (λ n. IsLaneAt n lanes s) (sym (width-is lanes)) (wanted-lane o lw lanes same s k t);
        lanes = λ s k. lane-wanted o lw lanes same s (subst (λ n. IsLaneAt n lanes s) (width-is lanes) k);
      })

  pub call-whole : (lanes : List (Option ℕ)) → AreRising o.slots → IsCallPack ds matches ssa d lanes
      → Produces ds matches ssa (Call d lanes) o → length lanes ≡ length e.lanes → Has (Call d lanes) (call_producer ds matches ssa o d e)
  call-whole lanes rise pack is long =
      let lw = e.lane_width in
      let two = pack.two in
      let wide = fitting-wide lanes pack.fit two in
      let wanted : (s : Slot) → Has s o.slots → is_wanted s.wanted ≡ true → IsLaneAt lw lanes s =
      λ s h t. subst (λ n. IsLaneAt n lanes s) (width-is lanes) (is.wanted s h t) in
      let there : (s : Slot) → IsLaneAt lw lanes s → Has s o.slots =
      λ s k. is.lanes s (subst (λ n. IsLaneAt n lanes s) (sym (width-is lanes)) k) in
      let same = exact o lw lanes rise wide wanted there in
      let made : lanes ≡ lanes_for (e.register / e.lane_width) 0 e.lane_width o.slots =
      lanes-are o lw lanes rise wide wanted there (e.register / e.lane_width) (long ∙ sym (lane-count wide)) in
      let can = can-be o lw lanes same two is.once in
      let reg : e.register ≡ o.register = sym (register-is lanes) ∙ is.register in
      let register : nat_eq e.register o.register ≡ true = grind (arith, nat_tests, reg) in
      let slots : pointwise same_slot (wanted_slots o) (lanes_from 0 lw lanes) ≡ true =
      ap (pointwise same_slot (wanted_slots o)) (sym same) ∙ slots-itself (wanted_slots o) in
      let matched : are_matched matches d 0 lanes ≡ true = at-matched matches d 0 lanes (λ i v k.
      let z : i ≡ 0 + i = omega arith in
      let f = pack.fit i v k in
      subst (λ n. is_some (match_at matches d n v) ≡ true) z (wide-found ds ssa matches d i v f.0 f.1 are f.2 f.3)) in
      let agreed = binds-agree ds matches ssa d lanes pack.agree in
      let Passes : List (Option ℕ) → Bool = λ ls.
      can_be_produced o
      && (nat_eq e.register o.register
      && (pointwise same_slot (wanted_slots o) (lanes_from 0 e.lane_width ls)
      && (are_matched matches d 0 ls
      && list_all (λ (q : Operand). agree q.slots) (operands_of ds matches ssa (Call d ls))))) in
      let passes : Passes lanes ≡ true =
      and-true _ _ can (and-true _ _ register (and-true _ _ slots (and-true _ _ matched agreed))) in
      let own = lanes_for (e.register / e.lane_width) 0 e.lane_width o.slots in
      one-if (Passes own) (Call d lanes) (Call d own) (ap Passes (sym made) ∙ passes) (ap (Call d) (sym made))
