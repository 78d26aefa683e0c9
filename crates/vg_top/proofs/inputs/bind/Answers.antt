use Rattle.std.proofs.Common.{map}
use Rattle.vg_request.specs.Binding.{binding_seen}
use Rattle.vg_top.proofs.BoundInputs.{values_fit}
use Rattle.vg_top.proofs.inputs.bind.Goals as goal

pub returns-clause-fits : goal.returns-clause-fits
returns-clause-fits c = values_fit (map binding_seen c.args.bindings.now) c.args.params.now c.in-Some.places.items c.in-Some-2.args.items (rw c.in-Some.is at c.in_ok-places.ensures) (rw c.in-Some-2.is at c.in_ok-args.ensures)
