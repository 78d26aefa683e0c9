-- The values of a list of units of a kernel are one, and so is the plan over them.
use Rattle.std.proofs.Common.{◌≡◌, ◌∙◌, ℕ, Bool, true, false, List, [], map, refl, sym, ap, ap₂, subst}
use Rattle.std.specs.Prelude.{nat_le, Option, Some, None, if◌then◌else◌}
use Rattle.std.proofs.lemmas.Bool.{true≢false}
use Rattle.vg_kernel.specs.Tree.{Tree}
use Rattle.vg_match.specs.Laws.{HaveSameValues}
use Rattle.vg_rewrite.specs.Narrowed.{narrowed_units}
use Rattle.vg_rewrite.specs.Repeated.{repeated_units}
use Rattle.vg_rewrite.specs.Rewritten.{are_few, over}
use Rattle.vg_shapes.specs.declared.ssa.Ssa.{Ssa}
use Rattle.vg_shapes.specs.declared.ssa.SsaParam.{SsaParam}
use Rattle.vg_shapes.specs.declared.ssa_unit.SsaUnit.{SsaUnit}
use Rattle.vg_shapes.specs.Description.{Description}
use Rattle.vg_shapes.specs.Sound.{terms_of}
use Rattle.vg_ssa.specs.Numbering.{IsNumbering}
use Rattle.vg_ssa.specs.OfUnits.{AreNumbered, HaveCuts}
use Rattle.vg_terms.specs.declared.term.Term.{Term}
use Rattle.vg_terms.specs.Term.{tree}
use Rattle.vg_compile.specs.declared.rewriting.Rewriting.{Rewriting}
use Rattle.vg_compile.specs.declared.rewriting.Rewriting.TheVariants.{Own, Repeated, Narrowed, NarrowedRepeated}
use Rattle.vg_compile.specs.Chosen.{AreWhole, cheaper, IsChosenFor, IsChosenIfFew, IsChosenMore, IsChosenOf, KernelPlan, ListPlan, or_cheaper, price_of}
use Rattle.vg_compile.specs.OnePlan.{AreOnePlan}
use Rattle.vg_compile.specs.Rewritten.{AreRewritten, AreTooMany, AreValues, AreWholeBy, AreWideBy, units_by}
use Rattle.vg_compile.proofs.OnePlan.{one-fed-over, one-over, whole-values, wide-values}

-- ---- units that are made of a kernel's own

-- with another name, other parameters and other units
abbrev pub seen_as : Ssa → List ℕ → List SsaParam → List SsaUnit → Ssa
seen_as a name params units = record { name = name; params = params; units = units; terms = a.terms; cuts = a.cuts }

units-same : (rewriting : Rewriting) (a b : Ssa) → a.name ≡ b.name → a.params ≡ b.params → a.units ≡ b.units
    → units_by rewriting a ≡ units_by rewriting b
units-same Own a b name params units = units
units-same Repeated a b name params units = λ i. repeated_units (seen_as a (name i) (params i) (units i))
units-same Narrowed a b name params units = λ i. narrowed_units (seen_as a (name i) (params i) (units i))
units-same NarrowedRepeated a b name params units =
    λ i. repeated_units (over (seen_as a (name i) (params i) (units i)) (narrowed_units (seen_as a (name i) (params i) (units i))))

made-same : (rewriting : Rewriting) (k : Tree) (a b : Ssa) → IsNumbering k a → IsNumbering k b
    → units_by rewriting a ≡ units_by rewriting b
made-same rewriting k a b x y = units-same rewriting a b (x.name ∙ sym y.name) (x.params ∙ sym y.params) (x.units ∙ sym y.units)

-- ---- values

record HaveSameTerms (a b : Ssa) : Type 0 where
  name : a.name ≡ b.name
  params : a.params ≡ b.params
  units : a.units ≡ b.units
  terms : terms_of a ≡ terms_of b

rewritten-same : (rewriting : Rewriting) (k : Tree) (a b : Ssa) → AreRewritten rewriting k a
    → AreRewritten rewriting k b → HaveSameTerms a b
rewritten-same rewriting k a b x y =
    let params = x.is_own.params ∙ sym y.is_own.params in
    let units = made-same rewriting k x.own y.own x.is_own y.is_own in
    let there = subst (λ us. AreNumbered x.own.name y.own.params us a) units (subst (λ ps. AreNumbered x.own.name ps (units_by rewriting x.own) a) params x.numbered) in
    record {
      name = x.numbered.named ∙ x.is_own.name ∙ sym y.is_own.name ∙ sym y.numbered.named;
      params = x.numbered.over ∙ params ∙ sym y.numbered.over;
      units = x.numbered.made_of ∙ units ∙ sym y.numbered.made_of;
      terms = there.terms ∙ sym y.numbered.terms;
    }

rewritten-whole : (rewriting : Rewriting) (k : Tree) (a b : Ssa) → AreRewritten rewriting k a × (a.cuts ≡ [])
    → AreRewritten rewriting k b × (b.cuts ≡ []) → HaveSameValues a b
rewritten-whole rewriting k a b x y =
    let same = rewritten-same rewriting k a b x.0 y.0 in
    record {
      params = same.params;
      units = same.units;
      terms = same.terms;
      cuts = ap (λ (ts : List Term). map tree ts) (x.1 ∙ sym y.1);
    }

rewritten-wide : (rewriting : Rewriting) (k : Tree) (a b : Ssa)
    → AreRewritten rewriting k a × HaveCuts a.params a.units a
    → AreRewritten rewriting k b × HaveCuts b.params b.units b → HaveSameValues a b
rewritten-wide rewriting k a b x y =
    let same = rewritten-same rewriting k a b x.0 y.0 in
    let there = subst (λ us. HaveCuts b.params us a) same.units (subst (λ ps. HaveCuts ps a.units a) same.params x.1) in
    record {
      params = same.params;
      units = same.units;
      terms = same.terms;
      cuts = there ∙ sym y.1;
    }

whole-by : (rewriting : Rewriting) (k : Tree) (a b : Ssa) → AreWholeBy rewriting k a → AreWholeBy rewriting k b
    → HaveSameValues a b
whole-by Own k a b x y = whole-values k a b x y
whole-by Repeated k a b x y = rewritten-whole Repeated k a b x y
whole-by Narrowed k a b x y = rewritten-whole Narrowed k a b x y
whole-by NarrowedRepeated k a b x y = rewritten-whole NarrowedRepeated k a b x y

wide-by : (rewriting : Rewriting) (k : Tree) (a b : Ssa) → AreWideBy rewriting k a → AreWideBy rewriting k b
    → HaveSameValues a b
wide-by Own k a b x y = wide-values k a b x y
wide-by Repeated k a b x y = rewritten-wide Repeated k a b x y
wide-by Narrowed k a b x y = rewritten-wide Narrowed k a b x y
wide-by NarrowedRepeated k a b x y = rewritten-wide NarrowedRepeated k a b x y

name-by : (rewriting : Rewriting) (k : Tree) (a b : Ssa) → AreValues rewriting k a → AreValues rewriting k b
    → a.name ≡ b.name
name-by Own k a b x y = x.name ∙ sym y.name
name-by Repeated k a b x y = (rewritten-same Repeated k a b x y).name
name-by Narrowed k a b x y = (rewritten-same Narrowed k a b x y).name
name-by NarrowedRepeated k a b x y = (rewritten-same NarrowedRepeated k a b x y).name

-- ---- plans

-- two plans that are one, over the same values of one name
pub record AreOneSource (ds : List Description) (a b : KernelPlan) : Type 0 where
  pub plan : AreOnePlan ds a b
  pub values : HaveSameValues a.ssa b.ssa
  pub name : a.ssa.name ≡ b.ssa.name

cheaper-source : (ds : List Description) (a b c d : KernelPlan) → AreOneSource ds a c → AreOneSource ds b d
    → AreOneSource ds (cheaper ds a b) (cheaper ds c d)
cheaper-source ds a b c d x y =
    subst (λ t. AreOneSource ds (cheaper ds a b) (if t then c else d)) (ap₂ nat_le x.plan.price y.plan.price) (by (nat_le (price_of ds a) (price_of ds b)))
  where
    by : (t : Bool) → AreOneSource ds (if t then a else b) (if t then c else d)
    by true = x
    by false = y

list-source : (ds : List Description) (k : Tree) (width : ℕ) (rewriting : Rewriting) (a b : KernelPlan)
    → IsChosenOf ds k width rewriting a → IsChosenOf ds k width rewriting b → AreOneSource ds a b
list-source ds k width rewriting a b x y =
    let whole : AreOneSource ds x.whole y.whole = record {
      plan = one-over (AreWholeBy rewriting) ds k width x.whole y.whole (whole-by rewriting k) x.whole_chosen y.whole_chosen;
      values = whole-by rewriting k x.whole.ssa y.whole.ssa x.whole_chosen.values y.whole_chosen.values;
      name = name-by rewriting k x.whole.ssa y.whole.ssa x.whole_chosen.values.0 y.whole_chosen.values.0;
    } in
    let wide : AreOneSource ds x.wide y.wide = record {
      plan = one-over (AreWideBy rewriting) ds k width x.wide y.wide (wide-by rewriting k) x.wide_chosen y.wide_chosen;
      values = wide-by rewriting k x.wide.ssa y.wide.ssa x.wide_chosen.values y.wide_chosen.values;
      name = name-by rewriting k x.wide.ssa y.wide.ssa x.wide_chosen.values.0 y.wide_chosen.values.0;
    } in
    let fed : AreOneSource ds x.fed y.fed = record {
      plan = one-fed-over (AreWideBy rewriting) ds k width x.fed y.fed (wide-by rewriting k) x.fed_chosen y.fed_chosen;
      values = wide-by rewriting k x.fed.ssa y.fed.ssa x.fed_chosen.values y.fed_chosen.values;
      name = name-by rewriting k x.fed.ssa y.fed.ssa x.fed_chosen.values.0 y.fed_chosen.values.0;
    } in
    let two = cheaper-source ds x.whole x.wide y.whole y.wide whole wide in
    let three = cheaper-source ds (cheaper ds x.whole x.wide) x.fed (cheaper ds y.whole y.wide) y.fed two fed in
    subst (AreOneSource ds a) (sym y.is) (subst (λ p. AreOneSource ds p (cheaper ds (cheaper ds y.whole y.wide) y.fed)) (sym x.is) three)

-- ---- lists

-- they are over the same list of units too
pub record AreOneList (ds : List Description) (a b : ListPlan) : Type 0 where
  pub same : a.rewriting ≡ b.rewriting
  pub source : AreOneSource ds a.plan b.plan

-- a list is not both too long and planned
not-both : (rewriting : Rewriting) (k : Tree) (ssa : Ssa) → AreTooMany rewriting k → AreRewritten rewriting k ssa → ⊥
not-both rewriting k ssa (own, numbering, many) is =
    true≢false (sym is.few ∙ ap are_few (made-same rewriting k is.own own is.is_own numbering) ∙ many)

or-list : (ds : List Description) (k : Tree) (width : ℕ) (rewriting : Rewriting)
    (made : (s : Ssa) → AreWholeBy rewriting k s → AreRewritten rewriting k s) (a b : ListPlan)
    (x y : Option KernelPlan)
    → AreOneList ds a b → IsChosenIfFew ds k width rewriting x → IsChosenIfFew ds k width rewriting y
    → AreOneList ds (or_cheaper ds a rewriting x) (or_cheaper ds b rewriting y)
or-list ds k width rewriting made a b None None one few of = one
or-list ds k width rewriting made a b None (Some q) one few of = absurd (not-both rewriting k of.whole.ssa few (made of.whole.ssa of.whole_chosen.values))
or-list ds k width rewriting made a b (Some p) None one few of = absurd (not-both rewriting k few.whole.ssa of (made few.whole.ssa few.whole_chosen.values))
or-list ds k width rewriting made a b (Some p) (Some q) one few of =
    let source = list-source ds k width rewriting p q few of in
    subst (λ t. AreOneList ds (or_cheaper ds a rewriting (Some p)) (if t then b else record { rewriting = rewriting; plan = q })) (ap₂ nat_le one.source.plan.price source.plan.price)
    (by source (nat_le (price_of ds a.plan) (price_of ds p)))
  where
    by : AreOneSource ds p q → (t : Bool)
        → AreOneList ds (if t then a else record { rewriting = rewriting; plan = p }) (if t then b else record { rewriting = rewriting; plan = q })
    by source true = one
    by source false = record { same = refl; source = source }

abbrev of_list : Rewriting → KernelPlan → ListPlan
of_list rewriting plan = record { rewriting = rewriting; plan = plan }

more-list : (ds : List Description) (k : Tree) (width : ℕ) (r s : Rewriting) (a b : KernelPlan)
    → IsChosenMore ds k width r a → IsChosenMore ds k width s b
    → AreOneList ds (of_list r a) (of_list s b)
more-list ds k width r s a b x y =
    let own : AreOneList ds (of_list Own x.own) (of_list Own y.own) = record { same = refl; source = list-source ds k width Own x.own y.own x.own_chosen y.own_chosen } in
    let two = or-list ds k width Repeated (λ s h. h.0) (of_list Own x.own) (of_list Own y.own) x.repeated y.repeated own x.repeated_chosen y.repeated_chosen in
    let x_two = or_cheaper ds (of_list Own x.own) Repeated x.repeated in
    let y_two = or_cheaper ds (of_list Own y.own) Repeated y.repeated in
    let three = or-list ds k width Narrowed (λ s h. h.0) x_two y_two x.narrowed y.narrowed two x.narrowed_chosen y.narrowed_chosen in
    let x_three = or_cheaper ds x_two Narrowed x.narrowed in
    let y_three = or_cheaper ds y_two Narrowed y.narrowed in
    let four = or-list ds k width NarrowedRepeated (λ s h. h.0) x_three y_three x.both y.both three x.both_chosen y.both_chosen in
    subst (AreOneList ds (of_list r a)) (sym y.is) (subst (λ p. AreOneList ds p (or_cheaper ds y_three NarrowedRepeated y.both)) (sym x.is) four)

pub one-list : (ds : List Description) (k : Tree) (width : ℕ) (more : Bool) (r s : Rewriting) (a b : KernelPlan)
    → IsChosenFor more ds k width r a → IsChosenFor more ds k width s b
    → AreOneList ds (of_list r a) (of_list s b)
one-list ds k width false r s a b x y = record {
  same = x.0 ∙ sym y.0;
  source = record {
    plan = one-over AreWhole ds k width a b (whole-values k) x.1 y.1;
    values = whole-values k a.ssa b.ssa x.1.values y.1.values;
    name = x.1.values.0.name ∙ sym y.1.values.0.name;
  };
}
one-list ds k width true r s a b x y = more-list ds k width r s a b x y
