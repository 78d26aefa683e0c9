-- The lanes of an instance, as calls answer them.
use Rattle.std.proofs.Common.{Vec, Global, ◌≡◌, ℕ, zero, suc, ◌+◌, ◌*◌, ◌/◌, ◌<◌, refl, sym, ap, ◌∙◌, subst, arith, inl, inr, true, false, List, ◌∷◌, length, get_or}
use Rattle.std.specs.Prelude.{map, nat_le, Option, Result, Ok, Err, IfOk}
use Rattle.std.specs.declared.alloc.AllocError.{AllocError}
use Rattle.std.proofs.lemmas.Bool.{cases_Bool, cond-true, cond-false}
use Rattle.std.proofs.lemmas.List.{length-map}
use Rattle.std.proofs.lemmas.Nat.{div-add-mod', row_fits}
use Rattle.vg_terms.specs.Term.{Tree, node_count}
use Rattle.vg_shapes.specs.Lane.{Lane, known, big, dynamic, lane_of}
use Rattle.vg_shapes.specs.declared.lane.Lane as shape
use Rattle.vg_pool.specs.declared.content.Content.{Content}
use Rattle.vg_pseudo.specs.declared.header.Header.{Header}
use Rattle.vg_pseudo.specs.Tree.{Operation}
use Rattle.vg_script.specs.Views.{Whole}
use Rattle.vg_names.specs.Written.{IsWritten}
use Rattle.vg_range.specs.Immediates.{immediate_of}
use Rattle.vg_range.specs.Unrolled.{IsFormedEntry, MeansEntry, unrolled}
use Rattle.vg_lift.specs.Instances.{HasLanes, InResult, IsLaneOf, MeanLanes, MeansLane, instance_lane, instance_lanes, instance_term, is_dynamic, is_dynamic_in}
use Rattle.vg_lift.specs.Lanes.{lanes_from, sized}
use Rattle.vg_lift.specs.LaneTerm as terms
use Rattle.vg_lift.specs.LaneTerm.{lane_term, lifted_dst}
use Rattle.vg_lift.specs.Lifts.{LeavesDst}
use Rattle.vg_lift.specs.Views.{BitsFit, bits_of}
use Rattle.vg_lift.specs.declared.lifted.Lifted.{Lifted}
use Rattle.vg_lift.proofs.Entries.{Instanced, dynamic_there, lane_is, params_there, result_there, static_there, term_there}

-- ---- one run

dst_here : (pool : List Content) (h : Header) (o : Operation) (imm : ℕ) (i : Whole) (l : Lifted) → ∥ unrolled h o (immediate_of h.imm imm) ≡ Ok i ∥₁ → i.is_dynamic ≡ false
    → IsFormedEntry h o i → MeansEntry h o (immediate_of h.imm imm) i → IsWritten h o → bits_of pool l.bits ≡ lifted_dst i (length h.params) imm → BitsFit pool l.bits
    → length l.bits ≡ get_or i.widths i.result 0 → LeavesDst pool h o imm l
dst_here pool h o imm i l there static formed means written is fit wide =
    let at = immediate_of h.imm imm in
    let term = λ (lane : ℕ). term_there h o at i (length h.params) imm h.lane_width lane there in
    let known : Instanced h o imm i = record {
      params = params_there h o at i there;
      result = result_there h o at i there;
      formed = formed written;
      static = static_there h o at i there static;
      means = means written;
    } in
    record {
      static = dynamic_there h o at i there ∙ static;
      terms = λ lane. ap (λ b. terms.lane_of b h.lane_width lane) is ∙ term lane;
      means = λ lane inside. subst (IsLaneOf h o imm lane) (term lane) (lane_is h o imm i lane known inside);
      fit = fit;
      wide = wide ∙ result_there h o at i there;
    }

pub leaves_dst : (pool : List Content) (h : Header) (o : Operation) (imm n : ℕ) (at : Option ℕ) (i : Whole) (l : Lifted) → at ≡ immediate_of h.imm imm → n ≡ length h.params
    → ∥ unrolled h o at ≡ Ok i ∥₁ → i.is_dynamic ≡ false → IsFormedEntry h o i → MeansEntry h o at i → IsWritten h o → bits_of pool l.bits ≡ lifted_dst i n imm → BitsFit pool l.bits
    → length l.bits ≡ get_or i.widths i.result 0 → LeavesDst pool h o imm l
leaves_dst pool h o imm n at i l same count there static formed means written is fit wide =
    dst_here pool h o imm i l (subst (λ k. ∥ unrolled h o k ≡ Ok i ∥₁) same there) static formed (subst (λ k. MeansEntry h o k i) same means) written
    (is ∙ ap (λ k. lifted_dst i k imm) count) fit wide

pub is_dynamic_there : (h : Header) (o : Operation) (imm : ℕ) (at : Option ℕ) (i : Whole) → at ≡ immediate_of h.imm imm → ∥ unrolled h o at ≡ Ok i ∥₁ → i.is_dynamic ≡ true → is_dynamic h o imm ≡ true
is_dynamic_there h o imm at i same there on = ap (λ k. is_dynamic_in (unrolled h o k)) (sym same) ∙ dynamic_there h o at i there ∙ on

-- ---- one lane

pub sized_means : (h : Header) (o : Operation) (imm lane : ℕ) (t : Tree) → IsLaneOf h o imm lane t → MeansLane h o imm lane (sized t)
sized_means h o imm lane t m = elim (cases_Bool (nat_le (node_count t) 1024)) [
  | inl few ↦ subst (MeansLane h o imm lane) (sym (cond-true _ (known t) big few)) m
  | inr many ↦ subst (MeansLane h o imm lane) (sym (cond-false _ (known t) big many)) tt
]

pub lane_there : (pool : List Content) (h : Header) (o : Operation) (imm lane : ℕ) (l : Lifted) (r : Lane) → LeavesDst pool h o imm l
    → r ≡ sized (terms.lane_of (bits_of pool l.bits) h.lane_width lane) → r ≡ instance_lane h o imm lane
lane_there pool h o imm lane l r d e = e ∙ ap sized (d.terms lane) ∙ sym (cond-false _ _ _ d.static)

pub lane_meant : (pool : List Content) (h : Header) (o : Operation) (imm lane : ℕ) (l : Lifted) (r : Lane) → LeavesDst pool h o imm l → InResult h lane
    → r ≡ sized (terms.lane_of (bits_of pool l.bits) h.lane_width lane) → MeansLane h o imm lane r
lane_meant pool h o imm lane l r d inside e =
    subst (MeansLane h o imm lane) (sym (e ∙ ap sized (d.terms lane))) (sized_means h o imm lane (instance_term h o imm lane) (d.means lane inside))

pub no_lane_there : (h : Header) (o : Operation) (imm lane : ℕ) → is_dynamic h o imm ≡ true → dynamic ≡ instance_lane h o imm lane
no_lane_there h o imm lane on = sym (cond-true _ _ _ on)

-- ---- all lanes

same_from : (f g : ℕ → Lane) (k n : ℕ) → ((j : ℕ) → f j ≡ g j) → lanes_from f k n ≡ lanes_from g k n
same_from f g k zero e = refl
same_from f g k (suc n) e = ap (λ l. l ∷ lanes_from f (k + 1) n) (e k) ∙ ap (λ ls. g k ∷ ls) (same_from f g (k + 1) n e)

pub count_from : (f : ℕ → Lane) (k n : ℕ) → length (lanes_from f k n) ≡ n
count_from f k zero = refl
count_from f k (suc n) = ap suc (count_from f (k + 1) n)

pub mean_from : (h : Header) (o : Operation) (imm : ℕ) (f : ℕ → Lane) (k n : ℕ) → ((j : ℕ) → j < k + n → MeansLane h o imm j (f j)) → MeanLanes h o imm k (lanes_from f k n)
mean_from h o imm f k zero m = tt
mean_from h o imm f k (suc n) m = (m k (omega arith), mean_from h o imm f (k + 1) n (λ j less. m j (omega (arith, less))))

-- the lanes fill the result
pub filled : (h : Header) → HasLanes h → h.register / h.lane_width * h.lane_width ≡ h.register
filled h has = let e = div-add-mod' h.register h.lane_width in omega (arith, e, has.fill)

pub lane_in_result : (h : Header) (j : ℕ) → HasLanes h → j < h.register / h.lane_width → InResult h j
lane_in_result h j has less = let e = filled h has in let f = row_fits j h.lane_width (h.register / h.lane_width) h.lane_width less (omega arith) in record {
  width = has.width;
  inside = omega (arith, e, f);
}

abbrev lane_at : List Content → Lifted → ℕ → ℕ → Lane
lane_at pool l w k = sized (terms.lane_of (bits_of pool l.bits) w k)

-- what a call answers, where it is all lanes of this width
pub lanes_there : (pool : List Content) (h : Header) (o : Operation) (imm w count : ℕ) (l : Lifted) (r : Result (Vec shape.Lane Global) AllocError) → LeavesDst pool h o imm l
    → w ≡ h.lane_width → count ≡ h.register / h.lane_width → IfOk r (λ ls. map lane_of ls.items ≡ lanes_from (λ k. sized (terms.lane_of (bits_of pool l.bits) w k)) 0 count)
    → IfOk r (λ ls. map lane_of ls.items ≡ instance_lanes h o imm)
lanes_there pool h o imm w count l (Err a) d wide c e = tt
lanes_there pool h o imm w count l (Ok ls) d wide c e =
    e ∙ ap (λ v. lanes_from (lane_at pool l v) 0 count) wide
    ∙ same_from (lane_at pool l h.lane_width) (instance_lane h o imm) 0 count (λ j. lane_there pool h o imm j l (lane_at pool l h.lane_width j) d refl)
    ∙ ap (lanes_from (instance_lane h o imm) 0) c

pub lanes_meant : (pool : List Content) (h : Header) (o : Operation) (imm w count : ℕ) (l : Lifted) (r : Result (Vec shape.Lane Global) AllocError) → LeavesDst pool h o imm l → HasLanes h
    → w ≡ h.lane_width → count ≡ h.register / h.lane_width → IfOk r (λ ls. map lane_of ls.items ≡ lanes_from (λ k. sized (terms.lane_of (bits_of pool l.bits) w k)) 0 count)
    → IfOk r (λ ls. MeanLanes h o imm 0 (map lane_of ls.items))
lanes_meant pool h o imm w count l (Err a) d has wide c e = tt
lanes_meant pool h o imm w count l (Ok ls) d has wide c e =
    subst (MeanLanes h o imm 0) (sym (e ∙ ap (λ v. lanes_from (lane_at pool l v) 0 count) wide))
    (mean_from h o imm (lane_at pool l h.lane_width) 0 count (λ j less. lane_meant pool h o imm j l (lane_at pool l h.lane_width j) d (lane_in_result h j has (omega (arith, c, less))) refl))

pub no_lanes_there : (h : Header) (o : Operation) (imm count : ℕ) (r : Result (Vec shape.Lane Global) AllocError) → is_dynamic h o imm ≡ true → count ≡ h.register / h.lane_width
    → IfOk r (λ ls. map lane_of ls.items ≡ lanes_from (λ k. dynamic) 0 count) → IfOk r (λ ls. map lane_of ls.items ≡ instance_lanes h o imm)
no_lanes_there h o imm count (Err a) on c e = tt
no_lanes_there h o imm count (Ok ls) on c e =
    e ∙ same_from (λ k. dynamic) (instance_lane h o imm) 0 count (λ j. no_lane_there h o imm j on) ∙ ap (lanes_from (instance_lane h o imm) 0) c

pub no_lanes_meant : (h : Header) (o : Operation) (imm count : ℕ) (r : Result (Vec shape.Lane Global) AllocError)
    → IfOk r (λ ls. map lane_of ls.items ≡ lanes_from (λ k. dynamic) 0 count) → IfOk r (λ ls. MeanLanes h o imm 0 (map lane_of ls.items))
no_lanes_meant h o imm count (Err a) e = tt
no_lanes_meant h o imm count (Ok ls) e = subst (MeanLanes h o imm 0) (sym e) (mean_from h o imm (λ k. dynamic) 0 count (λ j less. tt))

-- as many as fill the result
pub lanes_fill : (h : Header) (f : ℕ → Lane) (count : ℕ) (r : Result (Vec shape.Lane Global) AllocError) → HasLanes h → count ≡ h.register / h.lane_width
    → IfOk r (λ ls. map lane_of ls.items ≡ lanes_from f 0 count) → IfOk r (λ ls. length ls.items * h.lane_width ≡ h.register)
lanes_fill h f count (Err a) has c e = tt
lanes_fill h f count (Ok ls) has c e =
    ap (λ n. n * h.lane_width) (sym (length-map ls.items lane_of) ∙ ap (λ (l : List Lane). length l) e ∙ count_from f 0 count ∙ c) ∙ filled h has
