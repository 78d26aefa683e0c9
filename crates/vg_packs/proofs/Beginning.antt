-- What the first slot of a wanted call fits.
use Rattle.std.proofs.Common.{◌≡◌, ℕ, zero, suc, ◌+◌, ◌*◌, ◌/◌, ◌<◌, Bool, true, false, List, [], ◌∷◌, ◌++◌, refl, sym, ◌∙◌, ap, arith, mul-div_cancel, zero-mul, inl, inr}
use Rattle.std.specs.Prelude.{◌&&◌, nat_eq, Option, Some, None, is_some}
use Rattle.std.specs.Cmp.Lexicographic.{pointwise}
use Rattle.std.proofs.lemmas.Bool.{cases_Bool}
use Rattle.std.proofs.lemmas.Bool.Decides.{nat_tests}
use Rattle.vg_kernel_plans.specs.Held.{lanes_from}
use Rattle.vg_kernel_plans.specs.Producers.{are_matched, can_be_produced, call_producer, lanes_for}
use Rattle.vg_shapes.specs.Wanted.{same_wanted}
use Rattle.vg_kernel_plans.specs.SameAs.{same_slot}
use Rattle.vg_kernel_plans.specs.Wants.{value_of, wanted_slots}
use Rattle.vg_kernel_plans.proofs.SameTests.{both-true, eq-itself}
use Rattle.vg_shapes.specs.declared.match_table.Match.{Match}
use Rattle.vg_shapes.specs.declared.operand.Operand.{Operand}
use Rattle.vg_shapes.specs.declared.operand.Slot.{Slot}
use Rattle.vg_shapes.specs.declared.pack.Pack.{Pack}
use Rattle.vg_shapes.specs.declared.ssa.Ssa.{Ssa}
use Rattle.vg_shapes.specs.declared.wanted.Wanted.{Wanted}
use Rattle.vg_shapes.specs.declared.wanted.Wanted.TheVariants.{Value, Constant, Nothing}
use Rattle.vg_shapes.specs.Description.{Description}
use Rattle.vg_shapes.specs.Pack.{match_at}
use Rattle.vg_packs.specs.Lanes.{can_begin, fits_lane, is_matched}
use Rattle.vg_packs.specs.Making.{is_wanted_call}
use Rattle.vg_packs.proofs.Making.{call-absent}

eq-is : (a b : ℕ) → nat_eq a b ≡ true → a ≡ b
eq-is a b t = grind (arith, nat_tests)

fits-here : (matches : List Match) (d k low sw w at v : ℕ) (x : Wanted) → 0 < w → low ≡ k * w
    → (nat_eq at low && (nat_eq sw w && same_wanted x (Value v))) ≡ true → is_some (match_at matches d k v) ≡ true
    → (nat_eq sw w && is_matched matches d (at / w) (value_of x)) ≡ true
fits-here matches d k low sw w at v (Value u) p e h m =
    let a = both-true (nat_eq at low) _ h in
    let b = both-true (nat_eq sw w) _ a.1 in
    let same : u ≡ v = eq-is u v b.1 in
    let there : at ≡ low = eq-is at low a.0 in
    let lane : at / w ≡ k = ap (λ n. n / w) (there ∙ e) ∙ mul-div_cancel k p in
    rw (b.0, same, lane) m
fits-here matches d k low sw w at v (Constant y n) p e h m =
    let f : false ≡ true = (both-true (nat_eq sw w) _ (both-true (nat_eq at low) _ h).1).1 in
    absurd (cc)
fits-here matches d k low sw w at v Nothing p e h m =
    let f : false ≡ true = (both-true (nat_eq sw w) _ (both-true (nat_eq at low) _ h).1).1 in
    absurd (cc)

first-fits : (matches : List Match) (s : Slot) (ss : List Slot) (d w k low : ℕ) (lanes : List (Option ℕ)) → 0 < w → low ≡ k * w
    → pointwise same_slot (s ∷ ss) (lanes_from low w lanes) ≡ true → are_matched matches d k lanes ≡ true
    → fits_lane matches s d w ≡ true
first-fits matches s ss d w k low [] p e h m = absurd (cc)
first-fits matches s ss d w k low (None ∷ lanes) p e h m =
    first-fits matches s ss d w (suc k) (low + w) lanes p (rw e (omega arith)) h m
first-fits matches s ss d w k low (Some v ∷ lanes) p e h m =
    fits-here matches d k low s.width w s.low v s.wanted p e (both-true (same_slot s _) _ h).0
    (both-true (is_some (match_at matches d k v)) _ m).0

-- a call that is wanted begins with a slot that fits a lane of it
wanted-begins : (ds : List Description) (matches : List Match) (ssa : Ssa) (slots : List Slot) (d r w : ℕ) (all : List Slot)
    → is_wanted_call ds matches ssa slots d w (lanes_for (r / w) 0 w all) ≡ true → can_begin matches slots d w ≡ true
wanted-begins ds matches ssa [] d r w all h = refl
wanted-begins ds matches ssa (s ∷ ss) d r zero all h =
    let e : r / 0 ≡ 0 = omega arith in
    let f : false ≡ true = rw e at h in
    absurd (cc)
wanted-begins ds matches ssa (s ∷ ss) d r (suc w) all h =
    let lanes = lanes_for (r / suc w) 0 (suc w) all in
    let a = both-true (pointwise same_slot (s ∷ ss) (lanes_from 0 (suc w) lanes)) _ h in
    let b = both-true (are_matched matches d 0 lanes) _ a.1 in
    first-fits matches s ss d (suc w) 0 0 lanes (omega arith) (sym (zero-mul (suc w))) a.0 b.0

not-wanted : (ds : List Description) (matches : List Match) (ssa : Ssa) (slots : List Slot) (d r w : ℕ) (all : List Slot)
    → can_begin matches slots d w ≡ false
    → is_wanted_call ds matches ssa slots d w (lanes_for (r / w) 0 w all) ≡ false
not-wanted ds matches ssa slots d r w all f =
    elim (cases_Bool (is_wanted_call ds matches ssa slots d w (lanes_for (r / w) 0 w all))) [
      | inl t ↦
          let no : true ≡ false = sym (wanted-begins ds matches ssa slots d r w all t) ∙ f in
          absurd (cc)
      | inr n ↦ n
    ]

-- where the slots cannot begin a call, there is none
pub call-not-begun : (ds : List Description) (matches : List Match) (ssa : Ssa) (o : Operand) (d : ℕ) (e : Description)
    (slots : List Slot) (b : Bool) (old new : List Pack) → can_be_produced o ≡ true
    → slots ≡ wanted_slots o → e.register ≡ o.register
    → b ≡ can_begin matches slots d e.lane_width → b ≡ false → new ≡ old
    → new ≡ old ++ call_producer ds matches ssa o d e
call-not-begun ds matches ssa o d e slots b old new t s r h f n =
    let lanes = lanes_for (e.register / e.lane_width) 0 e.lane_width o.slots in
    let fits : nat_eq e.register o.register ≡ true = rw r (eq-itself o.register) in
    call-absent ds matches ssa o d e slots lanes (is_wanted_call ds matches ssa slots d e.lane_width lanes) old new t s fits refl refl
    (not-wanted ds matches ssa slots d e.register e.lane_width o.slots (sym h ∙ f)) n
