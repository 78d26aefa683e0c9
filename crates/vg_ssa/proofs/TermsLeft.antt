-- The terms of units, made one after the other.
use Rattle.std.proofs.Common.{◌≡◌, ◌+◌, ◌<◌, ◌^◌, List, length, sym, ap, subst, ◌∙◌, arith}
use Rattle.vg_shapes.specs.declared.ssa.SsaParam.{SsaParam}
use Rattle.vg_shapes.specs.declared.ssa_unit.SsaUnit.{SsaUnit}
use Rattle.vg_ssa.specs.declared.value_terms.Depth.{Depth}
use Rattle.vg_ssa.specs.declared.value_terms.ValueTerms.{ValueTerms}
use Rattle.vg_ssa.specs.Fitting.{UnitsFit}
use Rattle.vg_ssa.specs.OfUnits.{terms_over, trees_of, widths_of}
use Rattle.vg_ssa.specs.ValueTerm.{argument_terms, terms_behind}
use Rattle.vg_ssa.proofs.Soundness.{arguments-long}

-- the terms so far and those of the units that are left are all
pub record TermsLeft (d : Depth) (ps : List SsaParam) (all : List SsaUnit) (known : ValueTerms) (rest : List SsaUnit) : Type 0 where
  pub first : known.first ≡ length (widths_of ps)
  pub terms : terms_behind d known.first (trees_of known) rest ≡ terms_over d ps all
  pub few : length (trees_of known) + length rest < 2 ^ 32
  pub fit : UnitsFit d known.first (trees_of known) rest

pub terms-begun : (d : Depth) (ps : List SsaParam) (all : List SsaUnit) (known : ValueTerms) → known.first ≡ length (widths_of ps) → trees_of known ≡ argument_terms 0 (widths_of ps)
    → length (widths_of ps) + length all < 2 ^ 32 → UnitsFit d (length (widths_of ps)) (argument_terms 0 (widths_of ps)) all → TermsLeft d ps all known all
terms-begun d ps all known f t few fit =
    record {
      first = f;
      terms = λ i. terms_behind d (f i) (t i) all;
      few = (let long = ap length t ∙ arguments-long 0 (widths_of ps) in omega arith);
      fit = subst (λ n. UnitsFit d n (trees_of known) all) (sym f) (subst (λ l. UnitsFit d (length (widths_of ps)) l all) (sym t) fit);
    }
