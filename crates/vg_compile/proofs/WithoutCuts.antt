-- Values without cut terms are sound where those with them are, and are those of the same list.
use Rattle.std.proofs.Common.{◌≡◌, ◌∙◌, List, refl, sym, ap, subst, inl}
use Rattle.std.specs.Prelude.{Some, drop, slice_get, take}
use Rattle.vg_kernel.specs.Tree.{Tree as Kernel}
use Rattle.vg_shapes.specs.declared.ssa.Ssa.{Ssa}
use Rattle.vg_shapes.specs.Sound.{AreArgumentTerms, AreUnitTerms, IsSound, terms_of}
use Rattle.vg_shapes.specs.Units.{arguments, integers}
use Rattle.vg_rewrite.specs.Rewritten.{StandsForApart}
use Rattle.vg_terms.specs.Term.{Tree}
use Rattle.vg_ssa.specs.Numbering.{IsNumbering}
use Rattle.vg_ssa.specs.OfUnits.{AreNumbered}
use Rattle.vg_compile.specs.declared.rewriting.Rewriting.{Rewriting}
use Rattle.vg_compile.specs.declared.rewriting.Rewriting.TheVariants.{Own, Repeated, Narrowed, NarrowedRepeated}
use Rattle.vg_compile.specs.Listed.{AreUncut}
use Rattle.vg_compile.specs.Rewritten.{AreRewritten, AreValues, AreWholeBy, AreWideBy, StandIn}

-- ---- soundness

-- with the name, the parameters and the units of these, and the terms of those
abbrev over_same : (values ssa : Ssa) → Ssa
over_same values ssa = record { name = ssa.name; params = ssa.params; units = ssa.units; terms = values.terms; cuts = values.cuts }

sound-over : (values ssa : Ssa) → AreUncut values ssa → IsSound values → IsSound (over_same values ssa)
sound-over values ssa is sound =
    subst IsSound (λ i. record { name = sym is.named i; params = sym is.over i; units = sym is.made_of i; terms = values.terms; cuts = values.cuts }) sound

pub uncut-sound : (values ssa : Ssa) → AreUncut values ssa → IsSound values → IsSound ssa
uncut-sound values ssa is sound =
    let s = sound-over values ssa is sound in
    record {
      name = s.name;
      names = s.names;
      distinct = s.distinct;
      params = s.params;
      stores = s.stores;
      uses = s.uses;
      units = s.units;
      earlier = s.earlier;
      argument_terms = subst (λ (ts : List Tree). AreArgumentTerms 0 (integers ssa) (take (arguments ssa) ts)) (sym is.terms) s.argument_terms;
      unit_terms = subst (λ (ts : List Tree). AreUnitTerms (arguments ssa) ssa.units (drop (arguments ssa) ts)) (sym is.terms) s.unit_terms;
      meaning = λ places memory args k r are fit run v t less at.
          s.meaning places memory args k r are fit run v t less (subst (λ (ts : List Tree). slice_get ts v ≡ Some t) is.terms at);
      cuts = inl is.uncut;
    }

-- ---- the place of a kernel

-- values with the same name, parameters and units stand in it too
pub same-stand : (k : Kernel) (values ssa : Ssa) → ssa.name ≡ values.name → ssa.params ≡ values.params → ssa.units ≡ values.units → StandIn k values → StandIn k ssa
same-stand k values ssa named over made_of stands = record {
  named = named ∙ stands.named;
  over = over ∙ stands.over;
  apart = (let there = subst (StandsForApart k) (λ i. record { name = sym named i; params = sym over i; units = sym made_of i; terms = values.terms; cuts = values.cuts }) stands.apart in
      record { runs = there.runs; layouts = there.layouts });
}

-- ---- the same list

numbered-uncut : (k : Kernel) (values ssa : Ssa) → AreUncut values ssa → IsNumbering k values → IsNumbering k ssa
numbered-uncut k values ssa is h = record {
  name = is.named ∙ h.name;
  params = is.over ∙ h.params;
  units = is.made_of ∙ h.units;
  terms = is.terms ∙ h.terms;
}

rewritten-uncut : (rewriting : Rewriting) (k : Kernel) (values ssa : Ssa) → AreUncut values ssa → AreRewritten rewriting k values → AreRewritten rewriting k ssa
rewritten-uncut rewriting k values ssa is h = record {
  own = h.own;
  is_own = h.is_own;
  few = h.few;
  numbered = record {
    named = is.named ∙ h.numbered.named;
    over = is.over ∙ h.numbered.over;
    made_of = is.made_of ∙ h.numbered.made_of;
    terms = is.terms ∙ h.numbered.terms;
  };
}

values-uncut : (rewriting : Rewriting) (k : Kernel) (values ssa : Ssa) → AreUncut values ssa → AreValues rewriting k values → AreValues rewriting k ssa
values-uncut Own k values ssa is h = numbered-uncut k values ssa is h
values-uncut Repeated k values ssa is h = rewritten-uncut Repeated k values ssa is h
values-uncut Narrowed k values ssa is h = rewritten-uncut Narrowed k values ssa is h
values-uncut NarrowedRepeated k values ssa is h = rewritten-uncut NarrowedRepeated k values ssa is h

pub whole-of : (rewriting : Rewriting) (k : Kernel) (values ssa : Ssa) → AreUncut values ssa → AreWideBy rewriting k values → AreWholeBy rewriting k ssa
whole-of rewriting k values ssa is h = (values-uncut rewriting k values ssa is h.0, is.uncut)
