use Rattle.std.proofs.Common.{Some, None}
use Rattle.vg_top.proofs.BoundInputs.{number_once}
use Rattle.vg_top.proofs.inputs.number_of.Goals as goal

pub returns-in-Some : goal.returns-in-Some
returns-in-Some c = number_once c.args.bindings.now c.args.name.now c.times_bound.result (Some c.in-Some.binding.now) c.times_bound.ensures c.if-times_bound-ne1.false c.in-Some.ensures

pub returns-in-None : goal.returns-in-None
returns-in-None c = number_once c.args.bindings.now c.args.name.now c.times_bound.result None c.times_bound.ensures c.if-times_bound-ne1.false c.in-None.ensures
