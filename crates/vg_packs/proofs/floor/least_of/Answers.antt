use Rattle.std.proofs.Common.{arith, refl}
use Rattle.vg_packs.proofs.Floors.{lowest-all, lowest-more}
use Rattle.vg_packs.proofs.floor.least_of.Goals as goal

pub numbers-preserved : goal.numbers-preserved
numbers-preserved c =
    lowest-more c.numbers.least c.lesser-least.result c.args.numbers.now c.numbers.number-index _ 0 c.numbers-test.true refl
    c.numbers.invariant c.lesser-least.ensures.left c.lesser-least.ensures.right

pub returns : goal.returns
returns c =
    lowest-all c.numbers.least c.args.numbers.now c.numbers.number-index (omega (arith, c.numbers-test.false)) c.numbers.invariant
