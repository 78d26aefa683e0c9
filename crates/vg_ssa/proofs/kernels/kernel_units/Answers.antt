use Rattle.std.proofs.Common.{◌≡◌, ◌++◌, length, map, ap, sym, subst, ◌∙◌}
use Rattle.vg_kernel.specs.Tree.{statement_of, tree_of}
use Rattle.vg_kernel.specs.WellFormed.{integer_widths}
use Rattle.vg_ssa.specs.Built.{built}
use Rattle.vg_ssa.specs.Numbering.{first_unit, param_of}
use Rattle.vg_ssa.specs.OfUnits.{CanBeNumbered, without_terms}
use Rattle.vg_ssa.proofs.OfKernels.{begun-room, begun-units, integers-counted}
use Rattle.vg_ssa.proofs.Soundness.{kernel-can}
use Rattle.vg_ssa.proofs.kernels.kernel_units.Goals as goal

pub number_statements-requires : goal.number_statements-requires
number_statements-requires c =
    let k = tree_of c.args.kernel.now in
    let count : c.count_integers.result ≡ first_unit k = c.count_integers.ensures ∙ integers-counted c.as_slice.result.now ∙ ap (λ ps. length (integer_widths ps)) c.as_slice.ensures in
    begun-room k (built c.new-values.result) c.count_integers.result c.as_slice-2.result.now c.requires c.new-values.ensures count (ap (map statement_of) c.as_slice-2.ensures)

pub returns-clause-exact : goal.returns-clause-exact
returns-clause-exact c =
    let k = tree_of c.args.kernel.now in
    let count : c.count_integers.result ≡ first_unit k = c.count_integers.ensures ∙ integers-counted c.as_slice.result.now ∙ ap (λ ps. length (integer_widths ps)) c.as_slice.ensures in
    c.in_ok-number_statements.ensures.units ∙ (λ i. (c.new-values.ensures i).units ++ begun-units k (built c.new-values.result) c.count_integers.result c.as_slice-2.result.now c.new-values.ensures count (ap (map statement_of) c.as_slice-2.ensures) i)

pub returns-clause-numbered : goal.returns-clause-numbered
returns-clause-numbered c =
    let k = tree_of c.args.kernel.now in
    subst (λ us. CanBeNumbered (without_terms k.name (map param_of k.params) us)) (sym (returns-clause-exact c)) (kernel-can k c.requires)
