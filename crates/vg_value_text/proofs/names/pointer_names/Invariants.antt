use Rattle.std.proofs.Common.{◌≡◌, ◌++◌, map, drop}
use Rattle.vg_program.specs.Params.{pointers}
use Rattle.vg_value_text.proofs.names.pointer_names.Given as goal

abbrev pub invariant-params : goal.invariant-params
invariant-params l = l.names.items ++ map (λ p. p.name) (pointers (drop l.param-index l.params)) ≡ map (λ p. p.name) (pointers l.params)
