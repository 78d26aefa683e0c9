use Rattle.std.proofs.Common.{◌≡◌, ◌++◌, length}
use Rattle.vg_spans.specs.Spans.{argument_spans}
use Rattle.vg_spans.proofs.value_spans.argument_spans.Given as goal

-- the spans so far and those of the parameters that are left are all
abbrev pub invariant-params : goal.invariant-params
invariant-params l = l.all.items ++ argument_spans l.rest ≡ argument_spans l.params

abbrev pub decreases-params : goal.decreases-params
decreases-params l = length l.rest
