use Rattle.std.proofs.Common.{map, arith}
use Rattle.vg_rewrite.proofs.ForThemselves.{stands-more}
use Rattle.vg_shapes.specs.declared.wanted.Wanted.TheVariants.{Value}
use Rattle.vg_shapes.specs.Order.{numbers_from}
use Rattle.vg_rewrite.proofs.repeating.arguments_stand.Goals as goal

pub arguments-preserved : goal.arguments-preserved
arguments-preserved c =
    let some = c.arguments-test.true in
    let inside = c.arguments.invariant.inside in
    record {
      inside = omega arith;
      all = stands-more c.args.count c.arguments.left c.arguments.all.items c.push.new.self.items (map Value (numbers_from 0 c.args.count)) (omega arith) inside c.in_ok-push.ensures.items c.arguments.invariant.all;
    }
