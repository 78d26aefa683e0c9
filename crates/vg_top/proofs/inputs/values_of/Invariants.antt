-- the values so far and those of what is left are all values
use Rattle.std.proofs.Common.{◌≡◌, ◌++◌, drop, map}
use Rattle.std.specs.Option.{option_map}
use Rattle.vg_request.specs.Binding.{binding_seen}
use Rattle.vg_top.specs.Inputs.{values, asked}
use Rattle.vg_top.proofs.inputs.values_of.Given as goal

abbrev pub invariant-params : goal.invariant-params
invariant-params l = option_map (λ vs. l.all.items ++ vs) (values (map binding_seen l.bindings) (asked l.pointers (drop l.param-index l.params))) ≡ values (map binding_seen l.bindings) (asked l.pointers l.params)
