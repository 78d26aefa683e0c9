use Rattle.std.proofs.Common.{arith}
use Rattle.vg_rewrite.proofs.LastFirst.{ask-step}
use Rattle.vg_rewrite.proofs.asking.ask_units.Goals as goal

pub units-preserved : goal.units-preserved
units-preserved c =
    let some = c.units-test.true in
    let inside = c.units.invariant.inside in
    record {
      inside = omega arith;
      same = ask-step c.args.spans.now c.args.first c.units.left c.args.units.now _ _ _ _ (omega arith) inside c.ask_unit.ensures c.units.invariant.same;
    }
