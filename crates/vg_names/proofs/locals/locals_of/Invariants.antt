use Rattle.std.proofs.Common.{◌≡◌, map, take}
use Rattle.vg_pseudo.specs.Resolve.{locals_of}
use Rattle.vg_names.specs.Assigned.{assignment_view}
use Rattle.vg_names.proofs.locals.locals_of.Given as goal

abbrev pub invariant-assignments : goal.invariant-assignments
invariant-assignments l = l.names ≡ locals_of (map assignment_view (take l.assignment-index l.assignments))
