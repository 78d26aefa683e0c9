-- The lanes of each instance of an accepted entry mean the lanes of what the entry means.
use Rattle.std.proofs.Common.{◌≡◌, ℕ, ◌*◌, ◌/◌, ◌<◌, refl, sym, ap, ◌∙◌, subst, arith, inl, inr, false, length, Ok}
use Rattle.std.proofs.lemmas.Bool.{cases_Bool, cond-false, cond-true}
use Rattle.vg_pseudo.specs.declared.header.Header.{Header}
use Rattle.vg_pseudo.specs.Tree.{Operation}
use Rattle.vg_script.specs.Views.{Whole}
use Rattle.vg_names.specs.Written.{IsWritten, ResolvedAreProper}
use Rattle.vg_range.specs.Immediates.{immediate_of, IsByte}
use Rattle.vg_range.specs.Unrolled.{unrolled, whole_from}
use Rattle.vg_range.proofs.Unrolled.{formed_entry, instance_written, means_entry, unrolled_is}
use Rattle.vg_range_laws.proofs.Instances.{instances-are-static}
use Rattle.vg_lift.specs.Instances.{HasInstance, HasLanes, InResult, IsLaneOf, MeanLanes, MeansLane, instance_lane, instance_lanes, instance_term, is_dynamic, is_dynamic_in, term_in}
use Rattle.vg_lift.specs.LaneTerm.{lane_term}
use Rattle.vg_lift.proofs.Entries.{Instanced, lane_is, params_there, result_there}
use Rattle.vg_lift.proofs.InstanceLanes.{count_from, filled, lane_in_result, mean_from, sized_means}
use Rattle.vg_told.proofs.Accepted.{Accepts}

-- an instance that is written out
record Written (h : Header) (o : Operation) (imm : ℕ) : Type 0 where
  whole : Whole
  is : unrolled h o (immediate_of h.imm imm) ≡ Ok whole
  known : whole.is_dynamic ≡ false → Instanced h o imm whole

written : ResolvedAreProper → (h : Header) (o : Operation) (imm : ℕ) → Accepts h o → IsWritten h o → HasInstance h imm → IsByte (immediate_of h.imm imm) → Written h o imm
written proper h o imm a said has small =
    let at = immediate_of h.imm imm in
    let w = instance_written h o a.resolved at a.is has in
    let i = whole_from a.resolved w.0 in
    let e : unrolled h o at ≡ Ok i = unrolled_is h o a.resolved at w.0 a.is w.1 in
    record {
      whole = i;
      is = e;
      known = λ off. record {
        params = params_there h o at i ∣ e ∣₁;
        result = result_there h o at i ∣ e ∣₁;
        formed = formed_entry proper h o a.resolved at w.0 a.is has small w.1 said;
        static = instances-are-static h o at i e off;
        means = means_entry proper h o a.resolved at w.0 a.is has small w.1 said;
      };
    }

-- ---- one lane

lane-means : (h : Header) (o : Operation) (imm lane : ℕ) → Written h o imm → InResult h lane → MeansLane h o imm lane (instance_lane h o imm lane)
lane-means h o imm lane w inside = elim (cases_Bool (is_dynamic h o imm)) [
  | inl on ↦ subst (MeansLane h o imm lane) (sym (cond-true _ _ _ on)) tt
  | inr off ↦
      let flag : w.whole.is_dynamic ≡ false = sym (ap is_dynamic_in w.is) ∙ off in
      let same : lane_term w.whole (length h.params) imm h.lane_width lane ≡ instance_term h o imm lane =
      ap (λ x. term_in x (length h.params) imm h.lane_width lane) (sym w.is) in
      subst (MeansLane h o imm lane) (sym (cond-false _ _ _ off))
      (sized_means h o imm lane (instance_term h o imm lane)
      (subst (IsLaneOf h o imm lane) same (lane_is h o imm w.whole lane (w.known flag) inside)))
]

-- ---- all lanes

pub lanes-fill : (h : Header) (o : Operation) (imm : ℕ) → HasLanes h → length (instance_lanes h o imm) * h.lane_width ≡ h.register
lanes-fill h o imm has =
    ap (λ n. n * h.lane_width) (count_from (instance_lane h o imm) 0 (h.register / h.lane_width)) ∙ filled h has

pub lanes-mean : ResolvedAreProper → (h : Header) (o : Operation) (imm : ℕ) → Accepts h o → IsWritten h o → HasLanes h → HasInstance h imm → IsByte (immediate_of h.imm imm)
    → MeanLanes h o imm 0 (instance_lanes h o imm)
lanes-mean proper h o imm a said lanes has small =
    let w = written proper h o imm a said has small in
    mean_from h o imm (instance_lane h o imm) 0 (h.register / h.lane_width)
    (λ j less. lane-means h o imm j w (lane_in_result h j lanes (omega (arith, less))))
