use Rattle.std.proofs.Common.{sym, ◌∙◌, map, arith}
use Rattle.vg_request.specs.Binding.{binding_seen}
use Rattle.vg_top.proofs.BoundInputs.{value_none}
use Rattle.vg_top.proofs.inputs.values_of.Goals as goal

pub returns-in-None : goal.returns-in-None
returns-in-None c = sym (value_none (map binding_seen c.args.bindings.now) c.params.all.items c.args.pointers c.args.params.now c.params.param-index c.param-item.result (omega arith) c.param-item.is (cc) (sym c.in-None.ensures)) ∙ c.params.invariant
