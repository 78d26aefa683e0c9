use Rattle.std.proofs.Common.{◌≤◌}
use Rattle.vg_names.specs.declared.resolved.ResolvedArguments.{size-ResolvedArguments}
use Rattle.vg_names.proofs.resolved.+resolved.Given as goal

abbrev pub invariant-ResolvedArguments::drop-rest :
    goal.invariant-ResolvedArguments::drop-rest
invariant-ResolvedArguments::drop-rest l =
    size-ResolvedArguments l.self ≤ size-ResolvedArguments l.fn.self
