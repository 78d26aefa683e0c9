-- The lanes of a pack are exactly the slots of an operand that want something: as lists, and slot by slot.
use Rattle.std.proofs.Common.{◌≡◌, ℕ, ◌+◌, ◌*◌, ◌<◌, ◌≤◌, Bool, true, false, List, [], ◌∷◌, length, refl, sym, ◌∙◌, ap, subst, inl, arith}
use Rattle.std.specs.Prelude.{◌&&◌, if◌then◌else◌, nat_eq, nat_le, Option}
use Rattle.std.specs.List.{filter_map, list_all}
use Rattle.std.proofs.lemmas.Bool.Decides.{nat_tests}
use Rattle.vg_plans.specs.Members.{AllDiffer, Has}
use Rattle.vg_plans.proofs.Members.{from-filter, has-filter}
use Rattle.vg_shapes.specs.declared.operand.Operand.{Operand}
use Rattle.vg_shapes.specs.declared.operand.Slot.{Slot}
use Rattle.vg_shapes.specs.declared.pack.Pack.{Pack}
use Rattle.vg_shapes.specs.declared.wanted.Wanted.TheVariants.{Value}
use Rattle.vg_kernel_plans.specs.Held.{lanes_from}
use Rattle.vg_kernel_plans.specs.Producers.{all_differ, can_be_produced}
use Rattle.vg_kernel_plans.specs.Wants.{is_wanted, slot, value_of, wanted_slots, wanted_values, wants_value}
use Rattle.vg_kernel_plans.proofs.SameTests.{both-true}
use Rattle.vg_plan_relations.specs.Produces.{AreRising, HasLane}
use Rattle.vg_plan_relations.proofs.Rising.{all-differ, differ-all, lane-of, lane-there, lanes-long, lanes-rise, lanes-values, lanes-want, rising-filter, rising-same, values-wanted}

pub one-if : (b : Bool) (p q : Pack) → b ≡ true → q ≡ p → Has p (if b then q ∷ [] else [])
one-if true p q t e = inl e
one-if false p q t e = absurd (cc)

pub and-true : (a b : Bool) → a ≡ true → b ≡ true → (a && b) ≡ true
and-true a b t u = rw (t, u) refl

-- a slot is a lane of this width
abbrev pub IsLaneAt : ℕ → List (Option ℕ) → Slot → Type 0
IsLaneAt w lanes s = (i : ℕ) × (v : ℕ) × HasLane lanes i v × (s ≡ slot (i * w) w (Value v))

pub from-none : (i w v : ℕ) → slot (0 + i * w) w (Value v) ≡ slot (i * w) w (Value v)
from-none i w v = let e : 0 + i * w ≡ i * w = omega arith in ap (λ n. slot n w (Value v)) e

module _ (o : Operand) (w : ℕ) (lanes : List (Option ℕ)) where
  -- the lanes are what is wanted, as lists
  abbrev pub Same : Type 0
  Same = wanted_slots o ≡ lanes_from 0 w lanes

  pub wanted-lane : Same → (s : Slot) → Has s o.slots → is_wanted s.wanted ≡ true → IsLaneAt w lanes s
  wanted-lane e s h t =
      let k = lane-of 0 w lanes s (subst (Has s) e (has-filter (λ (s : Slot). is_wanted s.wanted) s o.slots h t)) in
      (k.0, k.1, k.2, k.3 ∙ from-none k.0 w k.1)

  pub lane-wanted : Same → (s : Slot) → IsLaneAt w lanes s → Has s o.slots
  lane-wanted e s k =
      let there = lane-there 0 w k.0 k.1 lanes k.2 in
      let own : Has s (lanes_from 0 w lanes) = subst (λ t. Has t (lanes_from 0 w lanes)) (from-none k.0 w k.1 ∙ sym k.3) there in
      (from-filter (λ (s : Slot). is_wanted s.wanted) s o.slots (subst (Has s) (sym e) own)).0

  pub exact : AreRising o.slots → 0 < w
      → ((s : Slot) → Has s o.slots → is_wanted s.wanted ≡ true → IsLaneAt w lanes s)
      → ((s : Slot) → IsLaneAt w lanes s → Has s o.slots) → Same
  exact rise wide wanted there =
      rising-same (wanted_slots o) (lanes_from 0 w lanes)
      (rising-filter (λ (s : Slot). is_wanted s.wanted) o.slots rise) (lanes-rise 0 w lanes wide)
      (λ x h.
      let f = from-filter (λ (s : Slot). is_wanted s.wanted) x o.slots h in
      let k = wanted x f.0 f.1 in
      subst (λ t. Has t (lanes_from 0 w lanes)) (from-none k.0 w k.1 ∙ sym k.3) (lane-there 0 w k.0 k.1 lanes k.2))
      (λ x h.
      let k = lane-of 0 w lanes x h in
      let t : is_wanted x.wanted ≡ true = ap (λ (s : Slot). is_wanted s.wanted) k.3 in
      has-filter (λ (s : Slot). is_wanted s.wanted) x o.slots (there x (k.0, k.1, k.2, k.3 ∙ from-none k.0 w k.1)) t)

  -- then the values that are wanted are those of the lanes
  pub same-values : Same → wanted_values o ≡ filter_map (λ v. v) lanes
  same-values e =
      sym (values-wanted o.slots) ∙ ap (filter_map (λ (s : Slot). value_of s.wanted)) e ∙ lanes-values 0 w lanes

  pub can-be : Same → 2 ≤ length (filter_map (λ v. v) lanes) → AllDiffer nat_eq (filter_map (λ v. v) lanes)
      → can_be_produced o ≡ true
  can-be e two once =
      let long : length (wanted_slots o) ≡ length (filter_map (λ v. v) lanes) = ap length e ∙ lanes-long 0 w lanes in
      let enough : nat_le 2 (length (wanted_slots o)) ≡ true = grind (arith, nat_tests, long, two) in
      let values : list_all (λ (s : Slot). wants_value s.wanted) (wanted_slots o) ≡ true =
      ap (list_all (λ (s : Slot). wants_value s.wanted)) e ∙ lanes-want 0 w lanes in
      let differ : all_differ (wanted_values o) ≡ true = ap all_differ (same-values e) ∙ all-differ (filter_map (λ v. v) lanes) once in
      and-true _ _ enough (and-true _ _ values differ)

  pub has-two : Same → can_be_produced o ≡ true → 2 ≤ length (filter_map (λ v. v) lanes)
  has-two e t =
      let long : length (wanted_slots o) ≡ length (filter_map (λ v. v) lanes) = ap length e ∙ lanes-long 0 w lanes in
      let b = both-true (nat_le 2 (length (wanted_slots o))) _ t in
      grind (arith, nat_tests, long, b.0)

  pub has-once : Same → can_be_produced o ≡ true → AllDiffer nat_eq (filter_map (λ v. v) lanes)
  has-once e t =
      let b = both-true (nat_le 2 (length (wanted_slots o))) _ t in
      let c = both-true (list_all (λ (s : Slot). wants_value s.wanted) (wanted_slots o)) (all_differ (wanted_values o)) b.1 in
      subst (AllDiffer nat_eq) (same-values e) (differ-all (wanted_values o) c.1)
