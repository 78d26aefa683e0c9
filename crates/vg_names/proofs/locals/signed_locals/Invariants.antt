use Rattle.std.proofs.Common.{◌≡◌, map}
use Rattle.vg_names.specs.Assigned.{assignment_view}
use Rattle.vg_names.specs.Gathered.{signed_after}
use Rattle.vg_names.specs.Registers.{register_view}
use Rattle.vg_names.proofs.locals.signed_locals.Given as goal

abbrev pub invariant-steps : goal.invariant-steps
invariant-steps l =
    l.flags.items ≡ signed_after (map (λ r. register_view r.now) l.given) l.locals (map assignment_view l.assignments) l._step
