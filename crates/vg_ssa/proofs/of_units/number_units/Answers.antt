use Rattle.std.proofs.Common.{length, map, sym, ap, subst, ◌∙◌, arith, inr}
use Rattle.vg_shapes.specs.declared.ssa.Ssa.{Ssa}
use Rattle.vg_ssa.specs.declared.value_terms.Depth.TheVariants.{Whole, Cut}
use Rattle.vg_ssa.specs.Fitting.{UnitsFit}
use Rattle.vg_ssa.specs.OfUnits.{CanBeNumbered, HaveCuts, terms_over, widths_of, without_terms}
use Rattle.vg_ssa.specs.ValueTerm.{argument_terms}
use Rattle.vg_ssa.proofs.Enough.{can-few}
use Rattle.vg_ssa.proofs.OverNames.{numbered-over_names}
use Rattle.vg_ssa.proofs.Soundness.{can-fit, can-same, numbered-sound}
use Rattle.vg_terms.specs.Term.{tree}
use Rattle.vg_ssa.proofs.of_units.number_units.Goals as goal

pub terms_of_units-requires-clause-few : goal.terms_of_units-requires-clause-few
terms_of_units-requires-clause-few c =
    let exact = c.in_ok-ssa.ensures.exact in
    let few = can-few (without_terms c.args.name c.args.params c.args.units) c.requires in
    let params = ap (λ ps. length (widths_of ps)) (c.as_slice.ensures ∙ exact.over) in
    let units = ap length (c.as_slice-2.ensures ∙ exact.made_of) in
    omega arith

pub terms_of_units-requires-clause-fit : goal.terms_of_units-requires-clause-fit
terms_of_units-requires-clause-fit c =
    let exact = c.in_ok-ssa.ensures.exact in
    subst (λ ps. UnitsFit Cut (length (widths_of ps)) (argument_terms 0 (widths_of ps)) c.as_slice-2.result.now) (sym (c.as_slice.ensures ∙ exact.over))
    (subst (UnitsFit Cut (length (widths_of c.args.params)) (argument_terms 0 (widths_of c.args.params))) (sym (c.as_slice-2.ensures ∙ exact.made_of))
    (can-fit Cut (without_terms c.args.name c.args.params c.args.units) c.requires))

pub returns-clause-exact : goal.returns-clause-exact
returns-clause-exact c =
    let exact = c.in_ok-ssa.ensures.exact in
    record { named = exact.named; over = exact.over; made_of = exact.made_of; terms = exact.terms }

pub returns-clause-cuts : goal.returns-clause-cuts
returns-clause-cuts c =
    let exact = c.in_ok-ssa.ensures.exact in
    ap (map tree) c.from_vec.ensures ∙ c.in_ok-cuts.ensures ∙ (λ i. terms_over Cut ((c.as_slice.ensures ∙ exact.over) i) ((c.as_slice-2.ensures ∙ exact.made_of) i))

pub returns-clause-over_names : goal.returns-clause-over_names
returns-clause-over_names c =
    let ssa : Ssa = record { name = c.in_ok-ssa.ssa.name; params = c.in_ok-ssa.ssa.params; units = c.in_ok-ssa.ssa.units; terms = c.in_ok-ssa.ssa.terms; cuts = c.from_vec.result } in
    let exact = c.in_ok-ssa.ensures.exact in
    let can : CanBeNumbered ssa = can-same ssa (subst CanBeNumbered (λ i. without_terms (sym exact.named i) (sym exact.over i) (sym exact.made_of i)) c.requires) in
    let cuts : HaveCuts ssa.params ssa.units ssa = returns-clause-cuts c ∙ (λ i. terms_over Cut (sym exact.over i) (sym exact.made_of i)) in
    numbered-over_names ssa can cuts

pub returns-clause-sound : goal.returns-clause-sound
returns-clause-sound c =
    let ssa : Ssa = record { name = c.in_ok-ssa.ssa.name; params = c.in_ok-ssa.ssa.params; units = c.in_ok-ssa.ssa.units; terms = c.in_ok-ssa.ssa.terms; cuts = c.from_vec.result } in
    let exact = c.in_ok-ssa.ensures.exact in
    let can : CanBeNumbered ssa = can-same ssa (subst CanBeNumbered (λ i. without_terms (sym exact.named i) (sym exact.over i) (sym exact.made_of i)) c.requires) in
    let terms = exact.terms ∙ (λ i. terms_over Whole (sym exact.over i) (sym exact.made_of i)) in
    numbered-sound ssa can terms (inr (returns-clause-cuts c ∙ (λ i. terms_over Cut (sym exact.over i) (sym exact.made_of i))))
