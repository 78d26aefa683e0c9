use Rattle.std.proofs.Common.{List, subst, sym, ◌∙◌, ◌↔◌}
use Rattle.std.specs.Prelude.{IsTrue}
use Rattle.std.specs.List.{filter_map}
use Rattle.vg_shapes.specs.declared.ssa.SsaParam.{SsaParam}
use Rattle.vg_shapes.specs.declared.ssa_unit.SsaUnit.{SsaUnit}
use Rattle.vg_shapes.specs.Layout.{Respects, noalias_of}
use Rattle.vg_deps.specs.Layouts.{are_respected}
use Rattle.vg_deps.proofs.RespectsTest.{respects-test}
use Rattle.vg_deps.proofs.layouts.respects.Goals as goal

pub returns : goal.returns
returns c =
    let ssa = c.args.ssa.now in
    let test = λ (params : List SsaParam) (us : List SsaUnit). are_respected (filter_map (λ p. noalias_of p.kind) params) c.args.places.now us in
    subst (λ b. IsTrue b ↔ Respects ssa c.args.places.now)
    (sym (c.are_respected.ensures ∙ (λ i. test (c.as_slice.ensures i) (c.as_slice-2.ensures i))))
    (respects-test ssa c.args.places.now)
