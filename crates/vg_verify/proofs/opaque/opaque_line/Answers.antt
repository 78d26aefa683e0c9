use Rattle.vg_verify.proofs.Seeking.{sought_end}
use Rattle.vg_verify.proofs.opaque.opaque_line.Goals as goal

pub returns : goal.returns
returns c = sought_end c.args.called.now c.args.program.now c.as_slice-lines.result.now c.lines.place c.as_slice-lines.ensures c.lines.invariant c.lines-test.false
