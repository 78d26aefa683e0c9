use Rattle.std.proofs.Common.{arith}
use Rattle.vg_rewrite.proofs.Counting.{few-numbers}
use Rattle.vg_rewrite.proofs.repeat.repeated_units.Goals as goal

pub repeat_few-requires : goal.repeat_few-requires
repeat_few-requires c = let few = few-numbers c.args.ssa.now c.requires in omega arith
