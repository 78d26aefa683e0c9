use Rattle.std.proofs.Common.{length, ap, arith, subst, sym}
use Rattle.std.specs.List.{AllByRecursion}
use Rattle.std.proofs.lemmas.Result.{IfOk-weaker}
use Rattle.vg_rewrite.specs.Readable.{UnitIsNarrowed}
use Rattle.vg_rewrite.proofs.Counting.{few-numbers}
use Rattle.vg_rewrite.proofs.LastFirst.{all-narrowed}
use Rattle.vg_ssa.specs.OfUnits.{widths_of}
use Rattle.vg_ssa.proofs.Soundness.{widths-many}
use Rattle.vg_rewrite.proofs.narrow.narrowed_units.Goals as goal

pub asked_of-requires-clause-few : goal.asked_of-requires-clause-few
asked_of-requires-clause-few c =
    let few = few-numbers c.args.ssa.now c.requires in
    let first = widths-many c.args.ssa.now.params in
    let widths = ap length c.in_ok-widths.ensures in
    let params = ap (λ ps. length (widths_of ps)) c.as_slice-params.ensures in
    let units = ap length c.as_slice-units.ensures in
    omega arith

pub asked_of-requires-clause-read : goal.asked_of-requires-clause-read
asked_of-requires-clause-read c =
    subst (AllByRecursion UnitIsNarrowed) (sym c.as_slice-units.ensures) (all-narrowed c.args.ssa.now c.requires)

pub make_all-requires-clause-read : goal.make_all-requires-clause-read
make_all-requires-clause-read c =
    subst (AllByRecursion UnitIsNarrowed) (sym c.as_slice-units.ensures) (all-narrowed c.args.ssa.now c.requires)

pub make_all-requires-clause-few : goal.make_all-requires-clause-few
make_all-requires-clause-few c =
    let few = few-numbers c.args.ssa.now c.requires in
    let first = widths-many c.args.ssa.now.params in
    let widths = ap length c.in_ok-widths.ensures in
    let params = ap (λ ps. length (widths_of ps)) c.as_slice-params.ensures in
    let units = ap length c.as_slice-units.ensures in
    omega arith

pub returns-clause-few : goal.returns-clause-few
returns-clause-few c =
    let few = few-numbers c.args.ssa.now c.requires in
    let first = widths-many c.args.ssa.now.params in
    let widths = ap length c.in_ok-widths.ensures in
    let params = ap (λ ps. length (widths_of ps)) c.as_slice-params.ensures in
    let units = ap length c.as_slice-units.ensures in
    IfOk-weaker c.make_all.result _ _ (λ made most. omega arith) c.make_all.ensures.few
