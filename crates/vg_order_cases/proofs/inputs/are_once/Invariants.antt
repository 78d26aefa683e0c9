use Rattle.std.proofs.Common.{◌≡◌, length}
use Rattle.vg_order_cases.specs.Inputs.{are_once}
use Rattle.vg_order_cases.proofs.inputs.are_once.Given as goal

abbrev pub invariant-units : goal.invariant-units
invariant-units l = are_once l.count l.rest ≡ are_once l.count l.initial.rest

abbrev pub decreases-units : goal.decreases-units
decreases-units l = length l.rest
