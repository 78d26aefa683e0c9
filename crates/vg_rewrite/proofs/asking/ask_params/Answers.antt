use Rattle.std.proofs.Common.{arith}
use Rattle.vg_rewrite.proofs.LastFirst.{ask-step_param}
use Rattle.vg_rewrite.proofs.asking.ask_params.Goals as goal

pub widths-preserved : goal.widths-preserved
widths-preserved c =
    let some = c.widths-test.true in
    let inside = c.widths.invariant.inside in
    record {
      inside = omega arith;
      same = ask-step_param c.args.spans.now c.widths.left c.args.widths.now _ _ _ _ (omega arith) inside c.ask_value.ensures c.widths.invariant.same;
    }
