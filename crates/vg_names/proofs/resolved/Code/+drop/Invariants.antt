use Rattle.std.proofs.Common.{◌≤◌}
use Rattle.vg_names.specs.declared.resolved.Code.{size-Code}
use Rattle.vg_names.proofs.resolved.Code.+drop.Given as goal

abbrev pub invariant-rest : goal.invariant-rest
invariant-rest l = size-Code l.self ≤ size-Code l.fn.self
