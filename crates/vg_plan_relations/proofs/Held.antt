-- The test whether a pack holds an operand says what it means.
use Rattle.std.proofs.Common.{◌≡◌, Bool, true, List, [], ◌∷◌, refl, sym, ◌∙◌, ap, subst, inl, inr, arith}
use Rattle.std.specs.Prelude.{◌&&◌, nat_eq}
use Rattle.std.specs.List.{list_all, list_any}
use Rattle.std.proofs.lemmas.Bool.{cases_Bool}
use Rattle.std.proofs.lemmas.Bool.Decides.{nat_tests}
use Rattle.vg_plans.specs.Members.{Has}
use Rattle.vg_plans.proofs.Members.{any-found, any-is}
use Rattle.vg_shapes.specs.declared.operand.Slot.{Slot}
use Rattle.vg_shapes.specs.declared.pack.Pack.{Pack}
use Rattle.vg_shapes.specs.declared.ssa.Ssa.{Ssa}
use Rattle.vg_shapes.specs.Description.{Description}
use Rattle.vg_shapes.specs.Operands.{lanes_of}
use Rattle.vg_kernel_plans.specs.Held.{held_slots, is_filled, lane_width_of, lanes_from, register_of}
use Rattle.vg_kernel_plans.specs.SameAs.{same_slot}
use Rattle.vg_kernel_plans.specs.Wants.{is_wanted, wants_value}
use Rattle.vg_kernel_plans.proofs.SameTests.{both-true, slot-is}
use Rattle.vg_plan_relations.specs.Laws.{HoldsIsTold}
use Rattle.vg_plan_relations.specs.Produces.{IsLaneSlot}
use Rattle.vg_plan_relations.proofs.Agreeing.{slot-itself}
use Rattle.vg_plan_relations.proofs.Exact.{and-true, from-none}
use Rattle.vg_plan_relations.proofs.Lists.{all-true}
use Rattle.vg_plan_relations.proofs.Rising.{lane-of, lane-there}

true-all : {X : Type 0} (test : X → Bool) (xs : List X) → ((x : X) → Has x xs → test x ≡ true) → list_all test xs ≡ true
true-all test [] f = refl
true-all test (x ∷ xs) f = and-true _ _ (f x (inl refl)) (true-all test xs (λ y h. f y (inr h)))

module _ (ds : List Description) (ssa : Ssa) (p : Pack) where
  held-lane : (s : Slot) → list_any (same_slot s) (held_slots ds ssa p) ≡ true → IsLaneSlot ds ssa p s
  held-lane s t =
      let w = lane_width_of ds ssa p in
      let k = any-found (same_slot s) (held_slots ds ssa p) t in
      let l = lane-of 0 w (lanes_of p) k.0 k.1 in
      (l.0, l.1, l.2, slot-is s k.0 k.2 ∙ l.3 ∙ from-none l.0 w l.1)

  lane-held : (s : Slot) → IsLaneSlot ds ssa p s → list_any (same_slot s) (held_slots ds ssa p) ≡ true
  lane-held s k =
      let w = lane_width_of ds ssa p in
      let there = lane-there 0 w k.0 k.1 (lanes_of p) k.2 in
      let own : Has s (held_slots ds ssa p) = subst (λ t. Has t (lanes_from 0 w (lanes_of p))) (from-none k.0 w k.1 ∙ sym k.3) there in
      any-is (same_slot s) s (held_slots ds ssa p) own (slot-itself s)

  filled-lane : (s : Slot) → is_filled ds ssa p s ≡ true → is_wanted s.wanted ≡ true → IsLaneSlot ds ssa p s
  filled-lane s t u =
      let f : (wants_value s.wanted && list_any (same_slot s) (held_slots ds ssa p)) ≡ true = rw u at t in
      held-lane s (both-true (wants_value s.wanted) (list_any (same_slot s) (held_slots ds ssa p)) f).1

  lane-filled : (s : Slot) → (is_wanted s.wanted ≡ true → IsLaneSlot ds ssa p s) → is_filled ds ssa p s ≡ true
  lane-filled s f = elim (cases_Bool (is_wanted s.wanted)) [
    | inr g ↦ rw g refl
    | inl t ↦
        let k = f t in
        let value : wants_value s.wanted ≡ true = ap (λ (x : Slot). wants_value x.wanted) k.3 in
        rw t (and-true _ _ value (lane-held s k))
  ]

pub holds-told : HoldsIsTold
holds-told ds ssa p o = (
  (λ t.
      let b = both-true (nat_eq (register_of ds ssa p) o.register) _ t in
      let c = both-true (list_any (λ (s : Slot). is_wanted s.wanted) o.slots) (list_all (is_filled ds ssa p) o.slots) b.1 in
      record {
        register = (let e = b.0 in grind (arith, nat_tests, e));
        some = any-found (λ (s : Slot). is_wanted s.wanted) o.slots c.0;
        wanted = λ s h u. filled-lane ds ssa p s (all-true (is_filled ds ssa p) o.slots s c.1 h) u;
      }),
  (λ is.
      let register : nat_eq (register_of ds ssa p) o.register ≡ true = let e = is.register in grind (arith, nat_tests, e) in
      let some = is.some in
      and-true _ _ register
      (and-true _ _ (any-is (λ (s : Slot). is_wanted s.wanted) some.0 o.slots some.1 some.2)
      (true-all (is_filled ds ssa p) o.slots (λ s h. lane-filled ds ssa p s (λ u. is.wanted s h u))))),
)
