use Rattle.std.proofs.Common.{arith, refl}
use Rattle.vg_packs.proofs.Floors.{highest-all, highest-more}
use Rattle.vg_packs.proofs.floor.greatest_of.Goals as goal

pub numbers-preserved : goal.numbers-preserved
numbers-preserved c =
    let old = c.numbers.invariant.first in
    let up = c.greater-greatest.ensures.left in
    record {
      first = omega (arith, old, up);
      all =
          highest-more c.numbers.greatest c.greater-greatest.result c.args.numbers.now c.numbers.number-index _ 0 c.numbers-test.true refl
          c.numbers.invariant.all c.greater-greatest.ensures.left c.greater-greatest.ensures.right;
    }

pub returns-clause-all : goal.returns-clause-all
returns-clause-all c =
    highest-all c.numbers.greatest c.args.numbers.now c.numbers.number-index (omega (arith, c.numbers-test.false)) c.numbers.invariant.all
