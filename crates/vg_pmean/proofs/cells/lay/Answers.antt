use Rattle.std.proofs.Common.{ap, arith}
use Rattle.vg_pmean.specs.Extent.{total}
use Rattle.vg_pmean.proofs.Laying.{total_part}
use Rattle.vg_pmean.proofs.cells.lay.Goals as goal

pub lay_one-end-requires-clause-small : goal.lay_one-end-requires-clause-small
lay_one-end-requires-clause-small c =
    let sofar = ap total c.registers.invariant.widths in
    omega (arith, sofar, c.registers.invariant.end, c.requires.small, total_part c.args.widths.now c.registers.width-index)
