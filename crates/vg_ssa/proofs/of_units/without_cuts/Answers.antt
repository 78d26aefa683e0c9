use Rattle.std.proofs.Common.{length, map, sym, ap, subst, ◌∙◌, arith, inl}
use Rattle.vg_shapes.specs.declared.ssa.Ssa.{Ssa}
use Rattle.vg_ssa.specs.declared.value_terms.Depth.TheVariants.{Whole}
use Rattle.vg_ssa.specs.Fitting.{UnitsFit}
use Rattle.vg_ssa.specs.OfUnits.{terms_over, widths_of, without_terms}
use Rattle.vg_ssa.specs.ValueTerm.{argument_terms}
use Rattle.vg_ssa.proofs.Enough.{can-few}
use Rattle.vg_ssa.proofs.Soundness.{can-fit, can-same, numbered-sound}
use Rattle.vg_terms.specs.Term.{tree}
use Rattle.vg_ssa.proofs.of_units.without_cuts.Goals as goal

pub terms_of_units-requires-clause-few : goal.terms_of_units-requires-clause-few
terms_of_units-requires-clause-few c =
    let few = can-few (without_terms c.args.name c.args.params c.args.units) c.requires in
    let params = ap (λ ps. length (widths_of ps)) c.as_slice.ensures in
    let units = ap length c.as_slice-2.ensures in
    omega arith

pub terms_of_units-requires-clause-fit : goal.terms_of_units-requires-clause-fit
terms_of_units-requires-clause-fit c =
    subst (λ ps. UnitsFit Whole (length (widths_of ps)) (argument_terms 0 (widths_of ps)) c.as_slice-2.result.now) (sym c.as_slice.ensures)
    (subst (UnitsFit Whole (length (widths_of c.args.params)) (argument_terms 0 (widths_of c.args.params))) (sym c.as_slice-2.ensures)
    (can-fit Whole (without_terms c.args.name c.args.params c.args.units) c.requires))

pub returns-clause-sound : goal.returns-clause-sound
returns-clause-sound c =
    let ssa : Ssa = record { name = c.args.name; params = c.args.params; units = c.args.units; terms = c.from_vec.result; cuts = c.from_vec-2.result } in
    numbered-sound ssa (can-same ssa c.requires)
    (ap (map tree) c.from_vec.ensures ∙ c.in_ok-terms.ensures ∙ (λ i. terms_over Whole (c.as_slice.ensures i) (c.as_slice-2.ensures i)))
    (inl (c.from_vec-2.ensures ∙ c.new.ensures.items))
