use Rattle.std.proofs.Common.{◌≡◌, length}
use Rattle.std.specs.List.{AllByRecursion}
use Rattle.vg_spans.specs.Operand.{IsRead}
use Rattle.vg_spans.specs.Spans.{spans_behind, spans_of}
use Rattle.vg_spans.proofs.value_spans.spans.Given as goal

-- the spans so far and those of the units that are left are all
abbrev pub invariant-units : goal.invariant-units
invariant-units l = record {
  all : spans_behind l.all.items l.rest ≡ spans_of l.ssa;
  read : AllByRecursion IsRead l.rest;
}

abbrev pub decreases-units : goal.decreases-units
decreases-units l = length l.rest
