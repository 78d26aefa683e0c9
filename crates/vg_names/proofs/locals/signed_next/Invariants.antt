use Rattle.std.proofs.Common.{◌≡◌, map, take}
use Rattle.vg_names.specs.Assigned.{assignment_view}
use Rattle.vg_names.specs.Gathered.{signed_next}
use Rattle.vg_names.specs.Registers.{register_view}
use Rattle.vg_names.proofs.locals.signed_next.Given as goal

abbrev pub invariant-assignments : goal.invariant-assignments
invariant-assignments l =
    l.flags.items ≡ signed_next (map (λ r. register_view r.now) l.known.given.now) l.known.locals.now
    (map assignment_view (take l.assignment-index l.assignments)) l.known.flags.now
