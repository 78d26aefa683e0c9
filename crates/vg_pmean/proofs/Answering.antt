-- Entries that are made ready answer what they mean.
use Rattle.std.proofs.Common.{◌≡◌, ℕ, zero, suc, ◌+◌, ◌-◌, ◌<◌, refl, sym, ap, ◌∙◌, subst, arith, Bool, true, false, ◌&&◌, List, [], ◌∷◌, ◌++◌, length, get_or, slice_get, map, Option, Some, None, Result, Ok, Err}
use Rattle.std.specs.Prelude.{nat_le, IfOk}
use Rattle.std.specs.declared.alloc.AllocError.{AllocError}
use Rattle.vg_pmean.specs.declared.instance.Instance.{Instance}
use Rattle.vg_pmean.specs.declared.prepared.Prepared.{Prepared}
use Rattle.vg_pmean.specs.Readied.{ready, ready_of}
use Rattle.std.specs.Option.{option_map_or}
use Rattle.std.proofs.lemmas.Bool.{leb-true}
use Rattle.std.proofs.lemmas.Option.{same_Some}
use Rattle.vg_pseudo.specs.declared.header.Header.{Header}
use Rattle.vg_pseudo.specs.declared.header.ImmRange.{ImmRange}
use Rattle.vg_pseudo.specs.Tree.{Operation}
use Rattle.vg_script.specs.Views.{whole_of}
use Rattle.vg_script.specs.declared.whole.Whole as code
use Rattle.vg_range.specs.Immediates.{has_instance, immediate_of}
use Rattle.vg_range.specs.Unrolled.{IsGiven}
use Rattle.vg_pmean.specs.Applied.{left_in_dst, place_of}
use Rattle.vg_pmean.specs.Entries.{IsInstance, AreInstances, AreAll, Answers, AnswersAll, AnswersOne, least_of}

-- one more after those found so far
pub one_more : (h : Header) (o : Operation) (imm n : ℕ) (is : List code.Whole) (i : code.Whole) → AreInstances h o imm is → length is ≡ n
    → IsInstance h o (Some (imm + n)) i → AreInstances h o imm (is ++ i ∷ [])
one_more h o imm n [] i all e last = (subst (λ k. IsInstance h o (Some k) i) (omega (arith, e)) last, tt)
one_more h o imm zero (j ∷ is) i all e last = absurd (omega (arith, e))
one_more h o imm (suc n) (j ∷ is) i all e last =
    (all.0, one_more h o (imm + 1) n is i all.1 (omega (arith, e)) (subst (λ k. IsInstance h o (Some k) i) (omega arith) last))

abbrev pub wholes : List Instance → List code.Whole
wholes is = map (λ i. i.whole) is

wholes_behind : (is : List Instance) (i : Instance) → wholes (is ++ i ∷ []) ≡ wholes is ++ i.whole ∷ []
wholes_behind [] i = refl
wholes_behind (j ∷ is) i = ap (λ t. j.whole ∷ t) (wholes_behind is i)

wholes_count : (is : List Instance) → length (wholes is) ≡ length is
wholes_count [] = refl
wholes_count (j ∷ is) = ap suc (wholes_count is)

length_behind : (is : List Instance) (i : Instance) → length (is ++ i ∷ []) ≡ length is + 1
length_behind [] i = refl
length_behind (j ∷ is) i = omega (arith, length_behind is i)

pub one_more_instance : (h : Header) (o : Operation) (lo n imm : ℕ) (is new : List Instance) (i : Instance) → AreInstances h o lo (wholes is) → length is ≡ n
    → imm ≡ lo + n → IsInstance h o (Some imm) i.whole → new ≡ is ++ i ∷ [] → AreInstances h o lo (wholes new) × (length new ≡ n + 1)
one_more_instance h o lo n imm is new i all count at means e = (
  subst (λ l. AreInstances h o lo (wholes l)) (sym e) (subst (AreInstances h o lo) (sym (wholes_behind is i))
      (one_more h o lo n (wholes is) i.whole all (wholes_count is ∙ count) (subst (λ k. IsInstance h o (Some k) i.whole) at means))),
  ap (λ (l : List Instance). length l) e ∙ omega (arith, length_behind is i, count),
)

-- the immediate stands after the parameters
behind_params : (params : List ℕ) (n imm : ℕ) → length params ≡ n → get_or (params ++ imm ∷ []) n 0 ≡ imm
behind_params [] zero imm e = refl
behind_params [] (suc n) imm e = absurd (omega (arith, e))
behind_params (p ∷ params) zero imm e = absurd (omega (arith, e))
behind_params (p ∷ params) (suc n) imm e = behind_params params n imm (omega (arith, e))

-- what is answered by an instance that stands at its place
answered_by : (h : Header) (o : Operation) (least imm : Option ℕ) (n : ℕ) (is : List code.Whole) (i : code.Whole)
    → slice_get is (place_of least n) ≡ Some i → IsInstance h o imm i
    → ((params : List ℕ) → length params ≡ length h.params → IsGiven h imm (params ++ n ∷ []))
    → Answers h o (record { least = least; instances = is }) n
answered_by h o least imm n is i at means given params e =
    ap (λ x. option_map_or (λ j. left_in_dst (whole_of j) (params ++ n ∷ [])) x []) at
    ∙ means (params ++ n ∷ []) (given params e)

instance_behind : (h : Header) (o : Operation) (imm k : ℕ) (is : List code.Whole) → AreInstances h o imm is → k < length is
    → (i : code.Whole) × (slice_get is k ≡ Some i) × IsInstance h o (Some (imm + k)) i
instance_behind h o imm k [] all less = absurd (omega (arith, less))
instance_behind h o imm zero (i ∷ is) all less = (i, refl, subst (λ n. IsInstance h o (Some n) i) (omega arith) all.0)
instance_behind h o imm (suc k) (i ∷ is) all less =
    let a = instance_behind h o (imm + 1) k is all.1 (omega (arith, less)) in
    (a.0, a.1, subst (λ n. IsInstance h o (Some n) a.0) (omega arith) a.2)

both_true : (a b : Bool) → (a && b) ≡ true → (a ≡ true) × (b ≡ true)
both_true true true e = (refl, refl)
both_true true false e = absurd (cc)
both_true false b e = absurd (cc)

-- all instances together answer for each immediate
answer_all : (h : Header) (o : Operation) (r : Option ImmRange) (is : List code.Whole) → AreAll h o r is
    → (imm : ℕ) → has_instance r (immediate_of r imm) ≡ true → Answers h o (record { least = least_of r; instances = is }) imm
answer_all h o None [] all imm has = absurd all
answer_all h o None (i ∷ is) all imm has = answered_by h o None None imm (i ∷ is) i refl all (λ params e. tt)
answer_all h o (Some r) is all imm has =
    let p = both_true (nat_le r.lo imm) (nat_le imm r.hi) has in
    let low = leb-true r.lo imm p.0 in
    let high = leb-true imm r.hi p.1 in
    let a = instance_behind h o r.lo (imm - r.lo) is all.0 (omega (arith, low, high, all.1)) in
    answered_by h o (Some r.lo) (Some imm) imm is a.0 a.1
    (subst (λ n. IsInstance h o (Some n) a.0) (omega (arith, low)) a.2)
    (λ params e. behind_params params (length h.params) imm e)

pub answers_all : (h : Header) (o : Operation) (is : List code.Whole) → AreAll h o h.imm is
    → AnswersAll h o (record { least = least_of h.imm; instances = is })
answers_all h o is all = answer_all h o h.imm is all

at_first : (i : code.Whole) (k : ℕ) → k ≡ 0 → slice_get (i ∷ []) k ≡ Some i
at_first i zero e = refl
at_first i (suc k) e = absurd (omega (arith, e))

-- one instance answers for its immediate
answer_one : (h : Header) (o : Operation) (r : Option ImmRange) (imm : ℕ) (i : code.Whole) → IsInstance h o (immediate_of r imm) i
    → (n : ℕ) → immediate_of r n ≡ immediate_of r imm → Answers h o (record { least = immediate_of r imm; instances = i ∷ [] }) n
answer_one h o None imm i means n e = answered_by h o None None n (i ∷ []) i refl means (λ params p. tt)
answer_one h o (Some r) imm i means n e =
    let same : n ≡ imm = same_Some _ _ e in
    answered_by h o (Some imm) (Some n) n (i ∷ []) i
    (at_first i (n - imm) (omega (arith, same)))
    (subst (λ k. IsInstance h o (Some k) i) (sym same) means)
    (λ params p. behind_params params (length h.params) n p)

pub answers_one : (h : Header) (o : Operation) (imm : ℕ) (i : code.Whole) → IsInstance h o (immediate_of h.imm imm) i
    → AnswersOne h o imm (record { least = immediate_of h.imm imm; instances = i ∷ [] })
answers_one h o imm i means = answer_one h o h.imm imm i means

-- ---- what is made ready

pub all_ready : (h : Header) (o : Operation) (least : Option ℕ) (is : List Instance) (result : Result Prepared AllocError)
    → IfOk result (λ p. ready_of p ≡ ready least is) → least ≡ least_of h.imm → AreAll h o h.imm (wholes is) → IfOk result (λ p. AnswersAll h o (ready_of p))
all_ready h o least is (Ok p) e same all =
    subst (AnswersAll h o) (ap (λ l. ready l is) (sym same) ∙ sym e) (answers_all h o (wholes is) all)
all_ready h o least is (Err a) e same all = tt

pub one_ready : (h : Header) (o : Operation) (imm : ℕ) (j : Option ℕ) (i : Instance) (is : List Instance) (p : Prepared) → j ≡ immediate_of h.imm imm
    → ready_of p ≡ ready j is → is ≡ i ∷ [] → (has_instance h.imm j ≡ true) × IsInstance h o j i.whole
    → (has_instance h.imm (immediate_of h.imm imm) ≡ true) × AnswersOne h o imm (ready_of p)
one_ready h o imm j i is p e r s found =
    let f = subst (λ k. (has_instance h.imm k ≡ true) × IsInstance h o k i.whole) e found in
    (f.0, subst (AnswersOne h o imm) (ap (λ k. ready k (i ∷ [])) (sym e) ∙ ap (ready j) (sym s) ∙ sym r) (answers_one h o imm i.whole f.1))
