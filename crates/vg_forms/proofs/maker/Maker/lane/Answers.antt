use Rattle.std.proofs.Common.{◌∙◌, ap, sym, map}
use Rattle.std.specs.Prelude.{unwrap_or}
use Rattle.std.proofs.lemmas.Result.{IfOk-weaker}
use Rattle.vg_canon.specs.Canonical.{canonical}
use Rattle.vg_shapes.specs.Fits.{replaced}
use Rattle.vg_known.specs.Calls.{read_leaf}
use Rattle.vg_known.specs.Cuts.{cut_bits}
use Rattle.vg_forms.specs.Lanes.{registers_of}
use Rattle.vg_forms.proofs.maker.Maker.lane.Goals as goal

pub returns-in-None-clause-form : goal.returns-in-None-clause-form
returns-in-None-clause-form c =
    let regs = registers_of c.args.inputs.vectors.now c.args.inputs.registers.now in
    let t = c.args.form.now in
    let parts = replaced (read_leaf (map (cut_bits c.args.self.now.classes) regs)) t in
    IfOk-weaker c.lane_of_parts.result _ _ (λ f p.
    p ∙ ap (λ met. canonical (replaced (read_leaf (map (cut_bits met) regs)) t)) c.whole_lane.ensures.classes
    ∙ sym (c.in_ok-form.ensures.form parts ∙ ap (λ o. unwrap_or o (canonical parts)) c.in-None.is)) c.lane_of_parts.ensures.form
