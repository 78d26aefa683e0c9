use Rattle.std.proofs.Common.{◌≡◌, ◌++◌, take}
use Rattle.std.specs.Prelude.{codes}
use Rattle.std.specs.List.{flat_map}
use Rattle.vg_program.specs.Text.{param_text}
use Rattle.vg_program.proofs.printing.put_params.Given as goal

abbrev pub invariant-params : goal.invariant-params
invariant-params l = l.to.items ≡ l.initial.to.items ++ flat_map (λ r. codes ", " ++ param_text r) (take l.param-index l.behind)
