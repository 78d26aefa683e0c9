use Rattle.std.proofs.Common.{◌≡◌, ◌+◌, ◌++◌, length}
use Rattle.vg_value_text.specs.Listed.{unit_lines}
use Rattle.vg_value_text.specs.Shown.{terms_in}
use Rattle.vg_value_text.proofs.listing.put_units.Given as goal

abbrev pub decreases-units : goal.decreases-units
decreases-units l = length l.left

abbrev pub invariant-units : goal.invariant-units
invariant-units l =
    (l.to.items ++ unit_lines l.fn.values.params.items (terms_in l.fn.values) l.number l.left
    ≡ l.initial.to.items ++ unit_lines l.fn.values.params.items (terms_in l.fn.values) l.fn.first l.fn.values.ssa.units)
    × (l.number + length l.left ≡ l.fn.first + length l.fn.values.ssa.units)
