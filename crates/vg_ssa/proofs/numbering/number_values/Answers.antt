use Rattle.std.proofs.Common.{map, sym, ap, subst, ◌∙◌}
use Rattle.std.proofs.lemmas.Result.{IfOk-weaker}
use Rattle.vg_kernel.specs.Tree.{tree_of}
use Rattle.vg_ssa.specs.Numbering.{param_of}
use Rattle.vg_ssa.specs.OfUnits.{CanBeNumbered, without_terms}
use Rattle.vg_ssa.proofs.Enough.{stands-for}
use Rattle.vg_ssa.proofs.OfKernels.{AreOf, can-of, numbering-of}
use Rattle.vg_ssa.proofs.numbering.number_values.Goals as goal

pub without_cuts-requires : goal.without_cuts-requires
without_cuts-requires c =
    let k = tree_of c.args.kernel.now in
    let is : AreOf k c.in_ok-name.name c.from_vec.result c.from_vec-2.result = record {
      named = c.in_ok-name.ensures;
      over = c.from_vec.ensures ∙ c.in_ok-params.ensures ∙ ap (map param_of) c.as_slice.ensures;
      made_of = c.from_vec-2.ensures ∙ c.in_ok-units.ensures.exact;
    } in
    can-of k c.in_ok-name.name c.from_vec.result c.from_vec-2.result is
    (subst (λ us. CanBeNumbered (without_terms k.name (map param_of k.params) us)) (sym c.from_vec-2.ensures) c.in_ok-units.ensures.numbered)

pub returns-clause-exact : goal.returns-clause-exact
returns-clause-exact c =
    let k = tree_of c.args.kernel.now in
    let is : AreOf k c.in_ok-name.name c.from_vec.result c.from_vec-2.result = record {
      named = c.in_ok-name.ensures;
      over = c.from_vec.ensures ∙ c.in_ok-params.ensures ∙ ap (map param_of) c.as_slice.ensures;
      made_of = c.from_vec-2.ensures ∙ c.in_ok-units.ensures.exact;
    } in
    IfOk-weaker c.without_cuts.result _ _ (λ ssa h. numbering-of k c.in_ok-name.name c.from_vec.result c.from_vec-2.result ssa is h) c.without_cuts.ensures.exact

pub returns-clause-stands_for : goal.returns-clause-stands_for
returns-clause-stands_for c = IfOk-weaker c.without_cuts.result _ _ (λ ssa h. stands-for (tree_of c.args.kernel.now) ssa c.requires h) (returns-clause-exact c)
